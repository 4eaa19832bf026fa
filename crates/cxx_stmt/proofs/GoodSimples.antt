-- Locals and simple statements are read right.
use Rattle.std.proofs.Common.{◌≡◌, ℕ, ◌≤◌, Bool, true, false, List, [], ◌∷◌, ◌++◌, Option, Some, None, inl, inr, refl, sym, ap, ◌∙◌, subst, append_assoc}
use Rattle.agxx_base.specs.declared.place.Place.{Place}
use Rattle.agxx_base.specs.declared.ids.NameId.{NameId}
use Rattle.agxx_base.specs.declared.vocabulary.Keyword.TheVariants as k
use Rattle.agxx_base.specs.declared.vocabulary.Sign.{Sign}
use Rattle.agxx_base.specs.declared.vocabulary.Sign.TheVariants as sg
use Rattle.agxx_base.specs.declared.vocabulary.SpecialName.{SpecialName}
use Rattle.cxx_tree.specs.declared.node.Placed.{Placed}
use Rattle.cxx_tree.specs.declared.operator.BinOp.{BinOp}
use Rattle.cxx_tree.specs.declared.expr.Base.TheVariants as base_of
use Rattle.cxx_tree.specs.declared.expr.Left.{Left}
use Rattle.cxx_tree.specs.declared.expr.Callee.{Callee}
use Rattle.cxx_tree.specs.declared.program.TypeName.{TypeName}
use Rattle.cxx_tree.specs.Words as w
use Rattle.cxx_tree.specs.Words.{Word, optional}
use Rattle.cxx_tree.specs.ExprTree as e
use Rattle.cxx_tree.specs.ExprTree.{ExprTree, listed_exprs}
use Rattle.cxx_tree.specs.StmtTree as s
use Rattle.cxx_tree.specs.StmtTree.{InitialTree, LocalTree, SimpleTree, StartTree}
use Rattle.cxx_tree.specs.Spelling.{assign_sign, bump_sign, spell_name, spell_callee, spell_left, spell_type, spell_initial}
use Rattle.cxx_tree.specs.Limits.{Grammar, HasAdviceForms}
use Rattle.cxx_tree.specs.Fits.{expr_level, IsAssignable, IsPlainType, FitsLeft}
use Rattle.cxx_expr.specs.Tokens.{Tokens, next, sees}
use Rattle.cxx_expr.specs.Lefts.{node_at}
use Rattle.cxx_expr.proofs.Good.{sees-head}
use Rattle.cxx_expr.proofs.Names.{default_name, member_of, good_selected, good_selected_of, good_target}
use Rattle.cxx_expr.proofs.Laws.{left_by-spelled, left_by-fits}
use Rattle.cxx_stmt.specs.Types.{pointer_to, word_type}
use Rattle.cxx_stmt.specs.Simples.{assign_of, bump_of, placed_by, assign_at, assign_next, bump_at, bump_next, callee_at, placed_callee, callee_next, callee, left_at, bump_tree, bumped_by, plain_ref, assigned, changed_by, changed, simple_behind, simple_by, simple, initial_by, initial, local_of, start_local_of, start_simple_of, start_behind, start_word, start_at, start_next, start}
use Rattle.cxx_stmt.proofs.Sorts as kind
use Rattle.cxx_stmt.proofs.Sorts.{Kind, Begins, maybe}
use Rattle.cxx_stmt.proofs.GoodParts.{Here, Behind, here_each, here_if, here_map, here_past, behind_done, behind_fail, behind_part, behind_through, behind_made, behind_map, behind_two, behind_next, behind_at, behind_if_sign, behind_sign}
use Rattle.cxx_stmt.proofs.GoodTypes.{IsTypeWord, type-word, good_names}
use Rattle.cxx_stmt.proofs.GoodArguments.{good_expr, good_arguments}

-- ---- signs

abbrev IsAssignSign : Sign → Option (Option BinOp) → Type 0
IsAssignSign found None = Unit {0}
IsAssignSign found (Some o) = (assign_sign o ≡ found) × IsAssignable o

assign-sign : (found : Sign) → IsAssignSign found (assign_of found)
assign-sign sg.Assign = (refl, tt)
assign-sign sg.PlusAssign = (refl, tt)
assign-sign sg.MinusAssign = (refl, tt)
assign-sign sg.StarAssign = (refl, tt)
assign-sign sg.SlashAssign = (refl, tt)
assign-sign sg.PercentAssign = (refl, tt)
assign-sign _ = tt

abbrev IsBumpSign : Sign → Option Bool → Type 0
IsBumpSign found None = Unit {0}
IsBumpSign found (Some adds) = bump_sign adds ≡ found

bump-sign : (found : Sign) → IsBumpSign found (bump_of found)
bump-sign sg.PlusPlus = refl
bump-sign sg.MinusMinus = refl
bump-sign _ = tt

module _ (special : SpecialName → ℕ) (g : Grammar) where
  -- ---- what may be assigned to or called

  module _ {most depth : ℕ} where
    good_callee_at : (at : Place) (word : Word) (ts : Tokens) → Here [] kind.callees most depth (callee_at at word) (callee_at at word) (record { at = at; item = word } ∷ ts)
    good_callee_at at (w.name n) ts = here_each (good_target at _)
    good_callee_at at (w.sign sg.ColonColon) ts = here_each (good_target at _)
    good_callee_at at (w.keyword k.This) ts =
        here_past (record { at = at; item = w.keyword k.This })
        (behind_part (kind.signs sg.Arrow) (λ m n le le' u v. (member_of base_of.This default_name, w.name 0 ∷ [], (0, 0, tt), refl)) (behind_sign sg.Arrow) (λ u v ts. here_each (good_selected base_of.This ts)) ts)
    good_callee_at at _ ts = behind_fail (inl refl) _

    good_callee : Behind [] (kind.placed_callees special g) most depth callee callee
    unfolding callee
    good_callee =
        behind_next callee_next callee_next (behind_fail (inl refl) [])
        (λ t ts. here_map kind.callees (λ c. placed_callee t.at c) (λ m n le le' c v. tt) (λ c. refl) (good_callee_at t.at t.item ts))

  -- ---- simple statements

  module _ (no_advice : HasAdviceForms g → ⊥) (most more depth deeper : ℕ) (le : most ≤ more) (le' : depth ≤ deeper) where
    module _ (left : Left) (fits : (n : ℕ) → FitsLeft g n left) where
      bump-begins : (pre : List Word) → spell_left special left ≡ pre → Begins (kind.simples special g) pre
      bump-begins pre i = (bump_tree left (record { at = kind.no_place; item = true }) false, w.sign sg.PlusPlus ∷ [], (0, 0, fits 0), ap (λ q. q ++ w.sign sg.PlusPlus ∷ []) i)

      good_bumped_by : (at : Place) (found : Sign) (o : Option Bool) → IsBumpSign found o → (ts : Tokens)
          → Here (spell_left special left) (kind.simples special g) most depth (bumped_by left (placed_by at o)) (bumped_by left (placed_by at o)) (record { at = at; item = w.sign found } ∷ ts)
      good_bumped_by at found None is ts = behind_fail (inr (bump-begins (spell_left special left) refl)) _
      good_bumped_by at found (Some adds) is ts =
          here_past (record { at = at; item = w.sign found })
          (behind_done (bump_tree left (record { at = at; item = adds }) false) (fits depth) (ap (λ q. spell_left special left ++ w.sign q ∷ []) is) ts)

      good_bumped_at : (at : Place) (word : Word) (ts : Tokens)
          → Here (spell_left special left) (kind.simples special g) most depth (bumped_by left (bump_at at word)) (bumped_by left (bump_at at word)) (record { at = at; item = word } ∷ ts)
      good_bumped_at at (w.sign found) ts = good_bumped_by at found (bump_of found) (bump-sign found) ts
      good_bumped_at at _ ts = behind_fail (inr (bump-begins (spell_left special left) refl)) _

      good_bumped : Behind (spell_left special left) (kind.simples special g) most depth (λ ts. bumped_by left (bump_next (next ts)) ts) (λ ts. bumped_by left (bump_next (next ts)) ts)
      good_bumped =
          behind_next (λ o. bumped_by left (bump_next o)) (λ o. bumped_by left (bump_next o)) (behind_fail (inr (bump-begins (spell_left special left) refl)) [])
          (λ t ts. good_bumped_at t.at t.item ts)

      good_changed_by : (at : Place) (found : Sign) (o : Option (Option BinOp)) → IsAssignSign found o → (ts : Tokens)
          → Here (spell_left special left) (kind.simples special g) most depth (changed_by most depth left (placed_by at o)) (changed_by more deeper left (placed_by at o)) (record { at = at; item = w.sign found } ∷ ts)
      unfolding assigned
      good_changed_by at found None is ts = good_bumped _
      good_changed_by at found (Some o) is ts =
          here_past (record { at = at; item = w.sign found })
          (behind_map (kind.fulls special g expr_level) (λ v. s.assign (record { left = left; sign = record { at = at; item = o }; value = v })) (λ m n le le' v u. (fits n, is.1, u))
          (λ v. ap (λ q. spell_left special left ++ w.sign q ∷ (kind.fulls special g expr_level).spelled v) is.0 ∙ sym (append_assoc (spell_left special left) (w.sign found ∷ []) ((kind.fulls special g expr_level).spelled v)))
          (good_expr special g no_advice most more depth deeper le le' expr_level) ts)

      good_changed_at : (at : Place) (word : Word) (ts : Tokens)
          → Here (spell_left special left) (kind.simples special g) most depth (changed_by most depth left (assign_at at word)) (changed_by more deeper left (assign_at at word)) (record { at = at; item = word } ∷ ts)
      good_changed_at at (w.sign found) ts = good_changed_by at found (assign_of found) (assign-sign found) ts
      good_changed_at at _ ts = good_bumped _

      good_changed : Behind (spell_left special left) (kind.simples special g) most depth (changed most depth left) (changed more deeper left)
      unfolding changed
      good_changed = behind_next (λ o. changed_by most depth left (assign_next o)) (λ o. changed_by more deeper left (assign_next o)) (good_bumped []) (λ t ts. good_changed_at t.at t.item ts)

    callee-begins : (c : Placed Callee) → Begins (kind.simples special g) (spell_callee c.item)
    callee-begins c = bump-begins (left_at c) (λ n. left_by-fits g n (node_at c.at) c.item) (spell_callee c.item) (left_by-spelled special (node_at c.at) c.item)

    -- behind what may be assigned to or called
    good_simple_behind : (c : Placed Callee) → Behind (spell_callee c.item) (kind.simples special g) most depth (simple_behind most depth c) (simple_behind more deeper c)
    unfolding simple_behind
    good_simple_behind c ts =
        here_if (sees sg.OpenParen) (sees-head sg.OpenParen)
        (λ i. behind_map (kind.arguments special g) (λ xs. s.call_stmt (e.calls (node_at c.at) c.item (listed_exprs xs))) (λ m n le le' xs v. v) (λ xs. refl) (good_arguments special g no_advice most more depth deeper le le') ts)
        (λ i. subst (λ pre. Here pre (kind.simples special g) most depth (changed most depth (left_at c)) (changed more deeper (left_at c)) ts) (left_by-spelled special (node_at c.at) c.item)
        (good_changed (left_at c) (λ n. left_by-fits g n (node_at c.at) c.item) ts))

    good_simple_plain : Behind [] (kind.simples special g) most depth (simple_by most depth None) (simple_by more deeper None)
    good_simple_plain =
        behind_part (kind.placed_callees special g) (λ m n le le' c v. callee-begins c) good_callee (λ c v. good_simple_behind c)

    good_simple_by : (at : Place) (found : Sign) (o : Option Bool) → IsBumpSign found o → (ts : Tokens)
        → Here [] (kind.simples special g) most depth (simple_by most depth (placed_by at o)) (simple_by more deeper (placed_by at o)) (record { at = at; item = w.sign found } ∷ ts)
    good_simple_by at found None is ts = good_simple_plain _
    good_simple_by at found (Some adds) is ts =
        here_past (record { at = at; item = w.sign found })
        (behind_map (kind.placed_callees special g) (λ c. bump_tree (left_at c) (record { at = at; item = adds }) true) (λ m n le le' c v. left_by-fits g n (node_at c.at) c.item)
        (λ c. ap (λ q. w.sign (bump_sign adds) ∷ q) (left_by-spelled special (node_at c.at) c.item) ∙ ap (λ q. w.sign q ∷ spell_callee c.item) is) good_callee ts)

    good_simple_at : (at : Place) (word : Word) (ts : Tokens)
        → Here [] (kind.simples special g) most depth (simple_by most depth (bump_at at word)) (simple_by more deeper (bump_at at word)) (record { at = at; item = word } ∷ ts)
    good_simple_at at (w.sign found) ts = good_simple_by at found (bump_of found) (bump-sign found) ts
    good_simple_at at _ ts = good_simple_plain _

    pub good_simple : Behind [] (kind.simples special g) most depth (simple most depth) (simple more deeper)
    unfolding simple
    good_simple = behind_next (λ o. simple_by most depth (bump_next o)) (λ o. simple_by more deeper (bump_next o)) (good_simple_plain []) (λ t ts. good_simple_at t.at t.item ts)

    -- ---- locals

    good_initial : Behind [] (maybe (kind.initials special g)) most depth (initial most depth) (initial more deeper)
    unfolding initial
    good_initial =
        behind_at sg.Assign (initial_by most depth) (initial_by more deeper)
        (λ at ts. here_past (record { at = at; item = w.sign sg.Assign })
        (behind_map (kind.fulls special g expr_level) (λ v. Some (record { sign = at; value = v })) (λ m n le le' v u. u) (λ v. refl) (good_expr special g no_advice most more depth deeper le le' expr_level) ts))
        (behind_done None tt refl)

    good_local_of : (t : Placed TypeName) → IsPlainType t.item → Behind (spell_type special t.item) (kind.locals special g) most depth (local_of most depth t) (local_of more deeper t)
    unfolding local_of
    good_local_of t plain =
        behind_two kind.names (maybe (kind.initials special g)) (λ n i. record { type_name = t; name = n; initial = i }) (λ m n le le' a i v u. (plain, u))
        (λ n i. append_assoc (spell_type special t.item) (spell_name n) (optional (spell_initial special) i)) good_names good_initial

    -- ---- a local or a simple statement

    good_start_local_of : (t : Placed TypeName) → IsPlainType t.item → Behind (spell_type special t.item) (kind.starts special g) most depth (start_local_of most depth t) (start_local_of more deeper t)
    good_start_local_of t plain = behind_made (kind.locals special g) s.start_local (λ m n le le' l v. v) (λ l. refl) (good_local_of t plain)

    good_start_simple_of : Behind [] (kind.starts special g) most depth (start_simple_of most depth) (start_simple_of more deeper)
    good_start_simple_of = behind_made (kind.simples special g) s.start_simple (λ m n le le' i v. v) (λ i. refl) good_simple

    start-begins : (c : Placed Callee) → Begins (kind.starts special g) (spell_callee c.item)
    start-begins c = let b = callee-begins c in (s.start_simple b.0, b.1, b.2, b.3)

    -- behind a name
    pub good_start_behind : (n : Placed NameId) → Behind (spell_name n) (kind.starts special g) most depth (start_behind most depth n) (start_behind more deeper n)
    unfolding start_behind
    good_start_behind n =
        behind_if_sign sg.Star (good_start_local_of (pointer_to n) tt)
        (behind_through kind.callees (λ m n' le le' c v. start-begins (placed_callee n.at c)) (λ ts. here_each (good_selected_of (plain_ref n) ts))
        (λ c v. behind_made (kind.simples special g) s.start_simple (λ m n le le' i v. v) (λ i. refl) (good_simple_behind (placed_callee n.at c))))

    good_start_word : (at : Place) (word : Word) (o : Option TypeName) → IsTypeWord special word o → (ts : Tokens)
        → Here [] (kind.starts special g) most depth (start_word most depth at o) (start_word more deeper at o) (record { at = at; item = word } ∷ ts)
    good_start_word at word None is ts = good_start_simple_of _
    good_start_word at word (Some t) is ts =
        here_past (record { at = at; item = word })
        (subst (λ pre. Here pre (kind.starts special g) most depth (start_local_of most depth (record { at = at; item = t })) (start_local_of more deeper (record { at = at; item = t })) ts) is.0
        (good_start_local_of (record { at = at; item = t }) is.1 ts))

    good_start_at : (at : Place) (word : Word) (ts : Tokens)
        → Here [] (kind.starts special g) most depth (start_at most depth at word) (start_at more deeper at word) (record { at = at; item = word } ∷ ts)
    good_start_at at (w.name n) ts = here_past (record { at = at; item = w.name n }) (good_start_behind (record { at = at; item = record { 0 = n } }) ts)
    good_start_at at (w.keyword word) ts = good_start_word at (w.keyword word) (word_type word) (type-word special word) ts
    good_start_at at _ ts = good_start_simple_of _

    pub good_start : Behind [] (kind.starts special g) most depth (start most depth) (start more deeper)
    unfolding start
    good_start = behind_next (start_next most depth) (start_next more deeper) (behind_fail (inl refl) []) (λ t ts. good_start_at t.at t.item ts)
