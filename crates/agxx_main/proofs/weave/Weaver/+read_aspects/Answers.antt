use Rattle.std.proofs.Common.{arith, rules, ◌≡◌, ◌∙◌, ap, subst, refl}
use Rattle.cxx_lex.specs.TokList.{tokens_of}
use Rattle.agxx_main.specs.Answers.{refused}
use Rattle.agxx_main.specs.Replies.{answer_of, all_seen, ending_of}
use Rattle.agxx_main.specs.Weaving.{joined, IsGuardedAnswer}
use Rattle.agxx_main.proofs.Texts.{if-ok}
use Rattle.agxx_main.proofs.Weavings.{rest_counted, rest_short, one-short, none-left, first-none, first-some}
use Rattle.agxx_main.proofs.weave.Weaver.+read_aspects.Goals as goal

pub read_guards-requires : goal.read_guards-requires
read_guards-requires t c = one-short c.args.left.now 0 c.sheet-item.result _ c.in-len1-up.len_at_least c.sheet-item.is c.requires.within

pub returns-in-empty : goal.returns-in-empty
returns-in-empty t c =
    let Then = IsGuardedAnswer (all_seen c.args.self.sources) (ending_of c.args.self.purpose.now) (tokens_of c.args.toks.now.items) c.args.toks.now.end in
    let files : c.as_slice.result.now ≡ c.args.files = search rules in
    if-ok c.read_program.result _ _
    (λ r x. none-left Then c.args.number c.args.taken.now c.args.left.now c.args.files (answer_of r) c.in-empty.len_below (subst (λ z. Then (joined z) (answer_of r)) files x))
    c.read_program.ensures

pub returns-in-None : goal.returns-in-None
returns-in-None t c =
    let Then = IsGuardedAnswer (all_seen c.args.self.sources) (ending_of c.args.self.purpose.now) (tokens_of c.args.toks.now.items) c.args.toks.now.end in
    if-ok c.refuse.result _ _
    (λ r e. first-none Then c.args.number c.args.taken.now c.args.left.now c.sheet-item.result _ c.args.files (answer_of r) c.in-len1-up.len_at_least c.sheet-item.is
    (rw c.in-None.is at c.in_ok-read_guards-in-len1-up.ensures.read) (e ∙ ap (refused c.sheet-item.result.name.now) c.at_beginning.ensures))
    c.refuse.ensures

pub returns-in_ok-push-in-Some : goal.returns-in_ok-push-in-Some
returns-in_ok-push-in-Some t c =
    let Then = IsGuardedAnswer (all_seen c.args.self.sources) (ending_of c.args.self.purpose.now) (tokens_of c.args.toks.now.items) c.args.toks.now.end in
    if-ok c.read_aspects.result _ _
    (λ r x. first-some Then c.args.number _ c.args.taken.now _ c.args.left.now c.sheet-item.result _ c.args.files _ c.in-Some.aspects (answer_of r) c.in-len1-up.len_at_least c.sheet-item.is refl
    (rw c.in-Some.is at c.in_ok-read_guards-in-len1-up.ensures.read) (rw c.in-Some.is at c.in_ok-read_guards-in-len1-up.ensures.taken) c.in_ok-push-in-Some.ensures.ok x)
    c.read_aspects.ensures

pub read_aspects-requires : goal.read_aspects-requires
read_aspects-requires t c = (
  omega (arith, rest_counted c.args.left.now 1, c.in-len1-up.len_at_least),
  (omega (arith, rest_counted c.args.left.now 1, c.requires.few, c.in-len1-up.len_at_least), rest_short c.args.left.now 1 c.requires.within),
)
