-- Types and parameters are read right.
use Rattle.std.proofs.Common.{◌≡◌, ℕ, ◌≤◌, [], ◌∷◌, Option, Some, None, inl, refl}
use Rattle.agxx_base.specs.declared.place.Place.{Place}
use Rattle.agxx_base.specs.declared.vocabulary.Keyword.{Keyword}
use Rattle.agxx_base.specs.declared.vocabulary.Keyword.TheVariants as k
use Rattle.agxx_base.specs.declared.vocabulary.Sign.TheVariants as sg
use Rattle.agxx_base.specs.declared.vocabulary.SpecialName.{SpecialName}
use Rattle.cxx_tree.specs.declared.program.TypeName.{TypeName}
use Rattle.cxx_tree.specs.Words as w
use Rattle.cxx_tree.specs.Words.{Word}
use Rattle.cxx_tree.specs.Spelling.{spell_type}
use Rattle.cxx_tree.specs.Fits.{IsPlainType}
use Rattle.cxx_expr.specs.Tokens.{Tokens}
use Rattle.cxx_expr.specs.Lefts.{name}
use Rattle.cxx_expr.proofs.Names.{good_name}
use Rattle.cxx_stmt.specs.Parts.{any}
use Rattle.cxx_stmt.specs.Types.{word_type, pointer_to, word_type_at, type_at, type_next, plain_type, param, params}
use Rattle.cxx_stmt.proofs.Sorts as kind
use Rattle.cxx_stmt.proofs.Sorts.{lists}
use Rattle.cxx_stmt.proofs.GoodParts.{Here, Behind, here_each, here_past, behind_done, behind_fail, behind_map, behind_two, behind_next, behind_sign, behind_parens}
use Rattle.cxx_stmt.proofs.GoodLists.{good_any}

pub good_names : {most depth : ℕ} → Behind [] kind.names most depth name name
good_names ts = here_each (good_name ts)

module _ (special : SpecialName → ℕ) where
  -- a word that is a type
  abbrev pub IsTypeWord : Word → Option TypeName → Type 0
  IsTypeWord word None = Unit {0}
  IsTypeWord word (Some t) = (spell_type special t ≡ word ∷ []) × IsPlainType t

  pub type-word : (word : Keyword) → IsTypeWord (w.keyword word) (word_type word)
  type-word (k.Number num) = (refl, tt)
  type-word k.Int = (refl, tt)
  type-word k.Unsigned = (refl, tt)
  type-word k.Void = (refl, tt)
  type-word _ = tt

  module _ (most depth : ℕ) where
    good_word_type : (at : Place) (word : Word) (o : Option TypeName) → IsTypeWord word o → (ts : Tokens)
        → Here [] (kind.types special) most depth (word_type_at at o) (word_type_at at o) (record { at = at; item = word } ∷ ts)
    good_word_type at word None is ts = behind_fail (inl refl) _
    good_word_type at word (Some t) is ts = here_past (record { at = at; item = word }) (behind_done (record { at = at; item = t }) is.1 is.0 ts)

    good_type_at : (at : Place) (word : Word) (ts : Tokens) → Here [] (kind.types special) most depth (type_at at word) (type_at at word) (record { at = at; item = word } ∷ ts)
    good_type_at at (w.keyword word) ts = good_word_type at (w.keyword word) (word_type word) (type-word word) ts
    good_type_at at (w.name n) ts =
        here_past (record { at = at; item = w.name n }) (behind_map (kind.signs sg.Star) (λ u. pointer_to (record { at = at; item = record { 0 = n } })) (λ m n le le' u v. tt) (λ u. refl) (behind_sign sg.Star) ts)
    good_type_at at _ ts = behind_fail (inl refl) _

    pub good_plain_type : Behind [] (kind.types special) most depth plain_type plain_type
    unfolding plain_type
    good_plain_type = behind_next type_next type_next (behind_fail (inl refl) []) (λ t ts. good_type_at t.at t.item ts)

    pub good_param : Behind [] (kind.param special) most depth param param
    unfolding param
    good_param =
        behind_two (kind.types special) kind.names (λ t n. record { type_name = t; name = n }) (λ m n le le' t x v u. v) (λ t n. refl) good_plain_type good_names

  pub good_params : (most depth deeper : ℕ) → depth ≤ deeper → Behind [] (kind.params special) most depth (params depth) (params deeper)
  unfolding params
  good_params most depth deeper le =
      behind_parens {K = lists (kind.param special)} (λ below. any param) (λ below. any param) le (λ below under e e' le'. good_any (kind.param special) most below param param (good_param most below))
