use Rattle.std.proofs.Common.{arith, refl, ap, ◌∙◌, map, [], ◌∷◌}
use Rattle.std.proofs.lemmas.List.{map-append}
use Rattle.cxx_lex.specs.TokList.{tokens_of as lexed_tokens}
use Rattle.cxx_parse.specs.Numbering.{with_names}
use Rattle.cxx_parse.specs.Owned.{owned_word, owned_token}
use Rattle.cxx_parse.proofs.Numbers.{longer_through, owned-left}
use Rattle.cxx_parse.proofs.words.owned_words.Goals as goal

pub loop-left-preserved : goal.loop-left-preserved
loop-left-preserved c =
    let r = owned-left c.loop-left.names c.owned_of.new.names (with_names c.args.names.now (lexed_tokens c.args.toks.now)) (map owned_token c.loop-left.found.items) (map owned_token c.push.new.self.items)
    (owned_word c.in_ok-item.item) c.loop-left.left.now _ _ (lexed_tokens c.args.toks.now) refl (omega (arith, c.in-len1-up.len_at_least)) c.in_ok-item.ensures.names c.in_ok-item.ensures.word c.loop-left.invariant.names c.loop-left.invariant.words
    (ap (map owned_token) c.in_ok-push.ensures.items ∙ map-append owned_token c.loop-left.found.items (_ ∷ [])) in
    record { kept = longer_through _ _ _ c.loop-left.invariant.kept c.owned_of.ensures.kept; names = r.0; words = r.1 }
