use Rattle.std.proofs.Common.{◌≡◌, ◌++◌, ◌∷◌, [], map, length, vec_items, length-append, ap, sym, ◌∙◌, arith}
use Rattle.std.proofs.lemmas.List.{length-map}
use Rattle.agxx_base.proofs.Interning.{seen-new, distinct-seen, at-end}
use Rattle.agxx_base.proofs.names.Names.append.Goals as goal

longer : (c : goal.In_ok-insert) → map vec_items c.insert.new.self.keys ≡ c.args.self.now ++ c.args.text.now ∷ []
longer c = seen-new vec_items c.self.inside.texts.keys c.insert.new.self.keys _ _ _ c.self.view_is c.in_ok-from_slice.ensures.items c.requires c.in_ok-insert.ensures.keys

length-before : (c : goal.In_ok-insert) → length c.args.self.now ≡ c.len-index.result
length-before c = ap length (sym c.self.view_is) ∙ length-map c.self.inside.texts.keys vec_items ∙ sym c.len-index.ensures.len

pub invariant_of-self-2 : goal.invariant_of-self-2
invariant_of-self-2 c =
    (omega (arith, ap length (longer c), length-map c.insert.new.self.keys vec_items, length-append c.args.self.now (c.args.text.now ∷ []), length-before c, c.if-index.false), distinct-seen vec_items c.insert.new.self.keys c.in_ok-insert.ensures.unique)

pub returns-clause-names : goal.returns-clause-names
returns-clause-names c = longer c

pub returns-clause-text : goal.returns-clause-text
returns-clause-text c = rw (longer c, sym (length-before c)) (at-end c.args.self.now c.args.text.now)

pub returns-clause-distinct : goal.returns-clause-distinct
returns-clause-distinct c = distinct-seen vec_items c.insert.new.self.keys c.in_ok-insert.ensures.unique
