-- The source of the example runs as it is said to.
use Rattle.std.proofs.Common.{◌≡◌, ℕ, zero, suc, ◌<◌, List, [], ◌∷◌, ◌++◌, length, Bool, true, false, Option, Some, None, slice_get, codes, refl, ap, sym, subst, ◌∙◌, arith, true≢false}
use Rattle.std.specs.Prelude.{slice_index_or}
use Rattle.std.specs.Fmt.{digits}
use Rattle.std.specs.Str.{bytes_eq}
use Rattle.agxx_base.specs.declared.kind.NumKind.TheVariants as kind
use Rattle.cxx_core.specs.CoreProgram.{CoreWord}
use Rattle.step_machine.specs.Setting.{word_number}
use Rattle.step_machine.specs.Item.{line_end}
use Rattle.step_machine.specs.Start.{start}
use Rattle.step_machine.specs.Examples.{ends}
use Rattle.step_machine.specs.Total.{Total, same, reading, next_of}
use Rattle.step_machine.specs.Flips.{flipped_of}
use Rattle.fault_model.specs.Parts.{part_words}
use Rattle.fault_model.specs.Exact.{own_words, IsMemberOf, IsExact, touched}
use Rattle.fault_model.specs.Example.{names, class_cell, two_threads, begun, plan_with, run_with}
use Rattle.fault_model.specs.SourceExample.{source, after_threads, source_after, the_member, SourceFollows}
use Rattle.fault_model.proofs.Together.{setting-next, setting-planned}

-- ---- the class has one member

abbrev word : ℕ → CoreWord
word name = record { name = name; kind = kind.U32 }

abbrev is-v : Option (List ℕ) → Bool
is-v None = false
is-v (Some text) = bytes_eq text (codes "v")

none-below : {P : Type 0} (k : ℕ) → k < 0 → P
none-below k h = absurd (omega (arith, h))

only-one : {P : Type 0} (k : ℕ) → suc k < 1 → P
only-one k h = absurd (omega (arith, h))

only-three : {P : Type 0} (k : ℕ) → suc (suc (suc k)) < 3 → P
only-three k h = absurd (omega (arith, h))

own-member : (n k : ℕ) (member : CoreWord) → k < length (own_words source (record { 0 = n })) → slice_index_or (own_words source (record { 0 = n })) k member ≡ member
    → (n ≡ 0) × (member ≡ word 1)
own-member zero zero member l e = (refl, sym e)
own-member zero (suc k) member l e = only-one k l
own-member (suc n) k member l e = none-below k l

part-member : (k : ℕ) (w : CoreWord) → k < length (part_words two_threads class_cell) → slice_index_or (part_words two_threads class_cell) k w ≡ w
    → is-v (slice_get names w.name) ≡ true → w ≡ word 1
part-member zero w l e h = sym e
part-member (suc zero) w l e h = absurd (true≢false (sym h ∙ ap (λ (x : CoreWord). is-v (slice_get names x.name)) (sym e)))
part-member (suc (suc zero)) w l e h = absurd (true≢false (sym h ∙ ap (λ (x : CoreWord). is-v (slice_get names x.name)) (sym e)))
part-member (suc (suc (suc k))) w l e h = only-three k l

-- ---- it is exact where the words have one value

exact-by : (m p : Total) → m.setting ≡ two_threads → p.setting ≡ source → m.word 0 0 ≡ p.word 0 0 → IsExact m p 0 class_cell
exact-by m p e f q of w member h =
    let h1 : IsMemberOf two_threads p.setting class_cell of w member = subst (λ s. IsMemberOf s p.setting class_cell of w member) e h in
    let x : IsMemberOf two_threads source class_cell of w member = subst (λ s. IsMemberOf two_threads s class_cell of w member) f h1 in
    let y : (of.0 ≡ 0) × (member ≡ word 1) = own-member of.0 x.member_of.0 member x.member_of.1 x.member_of.2 in
    let t : is-v (slice_get names w.name) ≡ true =
    ap is-v (x.word_is ∙ sym x.member_is) ∙ ap (λ (v : CoreWord). is-v (slice_get names v.name)) y.1 in
    let z : w ≡ word 1 = part-member x.word_of.0 w x.word_of.1 x.word_of.2 t in
    let a : word_number m.setting class_cell w.name ≡ 0 = λ j. word_number (e j) class_cell (z j).name in
    let b : word_number p.setting of member.name ≡ 0 = λ j. word_number (f j) (record { 0 = y.0 j }) (y.1 j).name in
    ap (m.word 0) a ∙ q ∙ sym (ap (p.word 0) b)

setting-threads : (ts : List ℕ) (m : Total) → (after_threads m ts).setting ≡ m.setting
setting-threads [] m = refl
setting-threads (t ∷ ts) m = setting-threads ts (next_of m t).0 ∙ setting-next m t

word-then : (run_with [] 191).total.word 0 0 ≡ Some 7
unfolding digits same flipped_of
word-then = refl

source-word-then : (source_after 191).word 0 0 ≡ Some 7
unfolding digits same flipped_of
source-word-then = refl

exact-then : IsExact (run_with [] 191).total (source_after 191) 0 class_cell
exact-then =
    exact-by (run_with [] 191).total (source_after 191) (setting-planned (plan_with []) begun 191)
    (setting-threads (run_with [] 191).erased (reading (start source))) (word-then ∙ sym source-word-then)

then-touches : touched (run_with [] 191).total 0 ≡ Some the_member
unfolding digits same flipped_of
then-touches = refl

printed : (source_after 402).output ≡ codes "5" ++ line_end
unfolding digits same flipped_of
printed = refl

ended : (source_after 402).state ≡ ends 0
unfolding digits same flipped_of
ended = refl

pub source-follows : SourceFollows
source-follows = record {
  touches = then-touches;
  exact = exact-then;
  output = printed;
  state = ended;
  cost_of_copies = refl;
  cost_of_hamming = refl;
  cost_of_none = refl;
}
