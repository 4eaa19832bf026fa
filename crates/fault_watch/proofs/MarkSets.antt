-- The parts that a set has.
use Rattle.std.proofs.Common.{◌≡◌, ℕ, Bool, true, false, ◌&&◌, ◌||◌, if◌then◌else◌, cond, nat_eq, nat_lt, List, [], ◌∷◌, Some, refl, ap, sym, ◌∙◌, arith}
use Rattle.std.proofs.Math.Path.{fun_ext}
use Rattle.std.specs.List.{list_any}
use Rattle.std.specs.declared.cmp.Ordering.{Ordering}
use Rattle.std.specs.declared.cmp.Ordering.TheVariants.{Less, Equal, Greater}
use Rattle.std.specs.Ordering.{is_eq, nat_cmp, ordering_then}
use Rattle.std.proofs.lemmas.Bool.Decides.{nat_tests}
use Rattle.agxx_base.specs.declared.ids.ClassId.{ClassId}
use Rattle.step_machine.specs.Setting.{stands_in}
use Rattle.step_machine.specs.Frame.{is_object}
use Rattle.step_machine.specs.Total.{same}
use Rattle.step_machine.proofs.Same.{nat-same}
use Rattle.fault_lines.specs.Marks.{Marks, is_part, with_mark}
use Rattle.fault_watch.specs.MarkSets.{MarkSet, has, without_mark}

-- ---- keys

abbrev pub key_cmp : ℕ × ℕ → ℕ × ℕ → Ordering
key_cmp x y = ordering_then (nat_cmp x.0 y.0) (nat_cmp x.1 y.1)

then-equal : (x y : Ordering) → is_eq (ordering_then x y) ≡ (is_eq x && is_eq y)
then-equal Less y = refl
then-equal Equal y = refl
then-equal Greater y = refl

number-equal : (a b : ℕ) → is_eq (nat_cmp a b) ≡ nat_eq a b
number-equal a b = go (nat_lt a b) (nat_eq a b) refl refl
  where
    go : (x y : Bool) → nat_lt a b ≡ x → nat_eq a b ≡ y → is_eq (cond x Less (cond y Equal Greater)) ≡ y
    go true true p q = absurd (grind (arith, nat_tests))
    go true false p q = refl
    go false true p q = refl
    go false false p q = refl

key-equal : (o k : ℕ) (key : ℕ × ℕ) → is_eq (key_cmp (o, k) key) ≡ (same o key.0 && same k key.1)
key-equal o k key =
    then-equal (nat_cmp o key.0) (nat_cmp k key.1)
    ∙ ap (λ b. b && is_eq (nat_cmp k key.1)) (number-equal o key.0 ∙ nat-same o key.0)
    ∙ ap (λ b. same o key.0 && b) (number-equal k key.1 ∙ nat-same k key.1)

pub has-is : (keys : MarkSet) (o : ℕ) (class : ClassId) → list_any (λ key. is_eq (key_cmp (o, class.0) key)) keys ≡ has keys o class
unfolding has
has-is keys o class = ap (λ p. list_any p keys) (fun_ext (λ key. key-equal o class.0 key))

-- ---- one part

turned : (a b : ℕ) → nat_eq a b ≡ nat_eq b a
turned a b = grind arith

same-turned : (a b : ℕ) → same a b ≡ same b a
same-turned a b = sym (nat-same a b) ∙ turned a b ∙ nat-same b a

part-equal : (o : ℕ) (class : ClassId) (p : ℕ) (k : ClassId) → is_eq (key_cmp (o, class.0) (p, k.0)) ≡ is_part o class p k
part-equal o class p k =
    key-equal o class.0 (p, k.0) ∙ ap (λ b. b && same class.0 k.0) (same-turned o p) ∙ ap (λ b. same p o && b) (same-turned class.0 k.0)

-- the keys are those of another set, but for one, which is there or isn't
abbrev pub Updates : MarkSet → MarkSet → ℕ → ClassId → Bool → Type 0
Updates old new o class b =
    (q : ℕ × ℕ) → list_any (λ key. is_eq (key_cmp q key)) new ≡ cond (is_eq (key_cmp (o, class.0) q)) b (list_any (λ key. is_eq (key_cmp q key)) old)

updated : (old new : MarkSet) (o : ℕ) (class : ClassId) (b : Bool) → Updates old new o class b → (p : ℕ) (k : ClassId)
    → has new p k ≡ cond (is_part o class p k) b (has old p k)
updated old new o class b h p k =
    sym (has-is new p k) ∙ h (p, k.0) ∙ ap (λ x. cond x b (list_any (λ key. is_eq (key_cmp (p, k.0) key)) old)) (part-equal o class p k)
    ∙ ap (λ x. cond (is_part o class p k) b x) (has-is old p k)

either : (a b : Bool) → cond a true b ≡ (a || b)
either true b = refl
either false b = refl

pub added : (old new : MarkSet) (o : ℕ) (class : ClassId) → Updates old new o class true → has new ≡ with_mark o class (has old)
added old new o class h = fun_ext (λ p. fun_ext (λ k. updated old new o class true h p k ∙ either (is_part o class p k) (has old p k)))

pub removed : (old new : MarkSet) (o : ℕ) (class : ClassId) → Updates old new o class false → has new ≡ without_mark o class (has old)
removed old new o class h = fun_ext (λ p. fun_ext (λ k. updated old new o class false h p k))

-- ---- the parts of an object of some classes

abbrev pub without_line : ℕ → List ClassId → Marks → Marks
without_line o ids marks p k = if is_object p (Some o) && stands_in (Some k) ids then false else marks p k

neither : (a x : Bool) → x ≡ (if a && false then false else x)
neither true x = refl
neither false x = refl

pub without-none : (o : ℕ) (ids : List ClassId) (marks : Marks) → ids ≡ [] → marks ≡ without_line o ids marks
without-none o ids marks e =
    fun_ext (λ p. fun_ext (λ k. neither (nat_eq o p) (marks p k))) ∙ ap (λ l. without_line o l marks) (sym e)

one-more : (a b c x : Bool) → (if a && c then false else (if a && b then false else x)) ≡ (if a && (b || c) then false else x)
one-more true true true x = refl
one-more true true false x = refl
one-more true false c x = refl
one-more false b c x = refl

pub without-more : (o : ℕ) (number : ClassId) (ids : List ClassId) (marks : Marks)
    → without_line o ids (without_mark o number marks) ≡ without_line o (number ∷ ids) marks
without-more o number ids marks = fun_ext (λ p. fun_ext (λ k.
    ap (λ b. if nat_eq o p && stands_in (Some k) ids then false else (if b && same k.0 number.0 then false else marks p k))
    (same-turned p o ∙ sym (nat-same o p))
    ∙ ap (λ b. if nat_eq o p && stands_in (Some k) ids then false else (if nat_eq o p && b then false else marks p k)) (sym (nat-same k.0 number.0))
    ∙ one-more (nat_eq o p) (nat_eq k.0 number.0) (stands_in (Some k) ids) (marks p k)))
