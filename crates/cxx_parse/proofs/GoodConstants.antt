-- Initial values of global numbers and pointers are read right.
use Rattle.std.proofs.Common.{ℕ, true, false, ◌∷◌, Some, None, inl, inr, refl, []}
use Rattle.agxx_base.specs.declared.kind.NumKind.TheVariants as num
use Rattle.agxx_base.specs.declared.place.Place.{Place}
use Rattle.agxx_base.specs.declared.vocabulary.Keyword.TheVariants as k
use Rattle.agxx_base.specs.declared.vocabulary.Sign.TheVariants as sg
use Rattle.agxx_base.specs.declared.vocabulary.SpecialName.{SpecialName}
use Rattle.cxx_tree.specs.declared.program.Const.TheVariants as const_of
use Rattle.cxx_tree.specs.Words as w
use Rattle.cxx_tree.specs.Words.{Word}
use Rattle.cxx_expr.specs.Tokens.{Tokens}
use Rattle.cxx_stmt.proofs.Sorts.{Begins, maybe}
use Rattle.cxx_stmt.proofs.GoodParts.{Here, Behind, here_past, behind_done, behind_fail, behind_map, behind_next, behind_at}
use Rattle.cxx_parse.specs.Constants.{number_at, number_next, negative, constant_at, constant_next, constant}
use Rattle.cxx_parse.specs.Declarations.{constant_by, initial_constant}
use Rattle.cxx_parse.proofs.Sorts as kind
use Rattle.cxx_parse.proofs.Sorts.{consts}

negative_begins : Begins consts (w.sign sg.Minus ∷ [])
negative_begins = (const_of.Number true (record { bits = 0; kind = num.I32 }), w.number 0 num.I32 ∷ [], (0, 0, tt), refl)

module _ {most depth : ℕ} where
  good_number_at : (at : Place) (word : Word) (ts : Tokens) → Here (w.sign sg.Minus ∷ []) consts most depth (number_at true word) (number_at true word) (record { at = at; item = word } ∷ ts)
  good_number_at at (w.number bits kind) ts =
      here_past (record { at = at; item = w.number bits kind }) (behind_done (const_of.Number true (record { bits = bits; kind = kind })) tt refl ts)
  good_number_at at _ ts = behind_fail (inr negative_begins) _

  good_negative : Behind (w.sign sg.Minus ∷ []) consts most depth negative negative
  unfolding negative
  good_negative = behind_next (number_next true) (number_next true) (behind_fail (inr negative_begins) []) (λ t ts. good_number_at t.at t.item ts)

  good_constant_at : (at : Place) (word : Word) (ts : Tokens) → Here [] consts most depth (constant_at word) (constant_at word) (record { at = at; item = word } ∷ ts)
  good_constant_at at (w.number bits kind) ts =
      here_past (record { at = at; item = w.number bits kind }) (behind_done (const_of.Number false (record { bits = bits; kind = kind })) tt refl ts)
  good_constant_at at (w.keyword k.True) ts = here_past (record { at = at; item = w.keyword k.True }) (behind_done (const_of.Flag true) tt refl ts)
  good_constant_at at (w.keyword k.False) ts = here_past (record { at = at; item = w.keyword k.False }) (behind_done (const_of.Flag false) tt refl ts)
  good_constant_at at (w.keyword k.Nullptr) ts = here_past (record { at = at; item = w.keyword k.Nullptr }) (behind_done const_of.Null tt refl ts)
  good_constant_at at (w.sign sg.Minus) ts = here_past (record { at = at; item = w.sign sg.Minus }) (good_negative ts)
  good_constant_at at _ ts = behind_fail (inl refl) _

  good_constant : Behind [] consts most depth constant constant
  unfolding constant
  good_constant = behind_next constant_next constant_next (behind_fail (inl refl) []) (λ t ts. good_constant_at t.at t.item ts)

  -- `=` and a constant, or nothing
  pub good_initial : (special : SpecialName → ℕ) → Behind [] (maybe (kind.constants special)) most depth initial_constant initial_constant
  unfolding initial_constant
  good_initial special =
      behind_at sg.Assign constant_by constant_by
      (λ at ts. here_past (record { at = at; item = w.sign sg.Assign }) (behind_map consts (λ c. Some (record { at = at; item = c })) (λ m n le le' c v. tt) (λ c. refl) good_constant ts))
      (behind_done None tt refl)
