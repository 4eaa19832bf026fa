-- The blocks of two copies run by themselves, member by member.
use Rattle.std.proofs.Common.{◌≡◌, ℕ, zero, suc, ◌+◌, ◌*◌, true, List, [], ◌∷◌, ◌++◌, map, length, take, slice_get, slice_set, Some, refl, sym, ap, ap₂, subst, ◌∙◌, arith, length-append}
use Rattle.agxx_base.specs.declared.ids.ClassId.{ClassId}
use Rattle.agxx_base.specs.declared.kind.NumKind.{NumKind}
use Rattle.agxx_base.specs.declared.place.Place.{Place}
use Rattle.cxx_core.specs.CoreProgram.{CoreWord}
use Rattle.step_machine.specs.declared.datum.Datum.{Datum}
use Rattle.step_machine.specs.Data.{from_bits_of}
use Rattle.step_machine.specs.Entries.{with_entry}
use Rattle.step_machine.specs.Setting.{is_of, word_number}
use Rattle.step_machine.specs.Item.{Item, stmts_on}
use Rattle.step_machine.specs.Frame.{Frame}
use Rattle.codec.specs.Copies.{majority, majorities, thrice, voted, copies}
use Rattle.codec_laws.specs.Values.{Fit}
use Rattle.codec_laws.specs.Solo.{Alone, goes, solo, solo_step}
use Rattle.codec_laws.specs.Blocks.{Copied, kind_of, first_of, second_of, part_words, repair_block, renew_block}
use Rattle.codec_laws.specs.BlockRuns.{IsLaid, Comes, CopiesRun, kinds_of, member_kinds, unsigned_kinds}
use Rattle.codec_laws.proofs.Lists.{three, get-seam, set-seam, get-first, get-second, get-third, set-first, set-second, set-third, more-seam, length-more, take-first}
use Rattle.codec_laws.proofs.Values.{fit-length, voted-of}
use Rattle.codec_laws.proofs.Steps.{and-more, fr}
use Rattle.codec_laws.proofs.CopyBlocks.{member-repairs, member-renews}

length-map : {X Y : Type 0} (g : X → Y) (xs : List X) → length (map g xs) ≡ length xs
length-map g [] = refl
length-map g (x ∷ xs) = ap (λ n. suc n) (length-map g xs)

module _ (a : Alone) (f : Frame) (own-object : f.this ≡ Some a.object) (at : Place) (class : ClassId)
    (of : is_of a.setting (Some a.live) (Some class) ≡ true) (k : ℕ) where
  -- the members from number n on stand there
  abbrev LaidFrom : ℕ → List Copied → Type 0
  LaidFrom n [] = Unit {0}
  LaidFrom n (m ∷ ms) =
      (word_number a.setting class m.member.name ≡ a.from + n)
      × (word_number a.setting class m.first ≡ a.from + (k + n))
      × (word_number a.setting class m.second ≡ a.from + (k + (k + n))) × LaidFrom (suc n) ms

  abbrev th : List (ℕ × Datum) → List Datum → List Item → List Frame
  th ls vs is = fr a f own-object ls vs is ∷ []

  -- ---- the words while a block goes on: those of the members before, and those of the others

  abbrev words : List ℕ → List ℕ → List ℕ → List ℕ → List ℕ
  words r xs ys zs = three (r ++ xs) (r ++ ys) (r ++ zs)

  words-more : (r xs ys zs : List ℕ) (v : ℕ) → three (r ++ v ∷ xs) (r ++ v ∷ ys) (r ++ v ∷ zs)
      ≡ words (r ++ v ∷ []) xs ys zs
  words-more r xs ys zs v = rw (more-seam r xs v, more-seam r ys v, more-seam r zs v) refl

  length-row : (r xs : List ℕ) (x n l : ℕ) → length r ≡ n → length xs ≡ l → k ≡ n + suc l → length (r ++ x ∷ xs) ≡ k
  length-row r xs x n l p q e = length-append r (x ∷ xs) ∙ omega arith

  length-three : {A : Type 0} (p q r : List A) → length p ≡ k → length q ≡ k → length r ≡ k → length (three p q r)
      ≡ k + (k + k)
  length-three p q r e g h = length-append p (q ++ r) ∙ ap (λ n. length p + n) (length-append q r) ∙ omega arith

  -- all three rows with v there
  set-all : (r xs ys zs : List ℕ) (x y z v n l : ℕ) → length r ≡ n → length xs ≡ l → length ys ≡ l → length zs ≡ l
      → k ≡ n + suc l
      → slice_set (slice_set (slice_set (three (r ++ x ∷ xs) (r ++ y ∷ ys) (r ++ z ∷ zs)) n v) (k + n) v)
      (k + (k + n)) v ≡ words (r ++ v ∷ []) xs ys zs
  set-all r xs ys zs x y z v n l p q s t e =
      let first = set-first (r ++ x ∷ xs) (r ++ y ∷ ys) (r ++ z ∷ zs) k n (length-row r xs x n l p q e)
      (length-row r ys y n l p s e) v (omega arith)
      ∙ ap (λ w. three w (r ++ y ∷ ys) (r ++ z ∷ zs)) (set-seam r xs x v n p) in
      let second = set-second (r ++ v ∷ xs) (r ++ y ∷ ys) (r ++ z ∷ zs) k n (length-row r xs v n l p q e)
      (length-row r ys y n l p s e) v (omega arith)
      ∙ ap (λ w. three (r ++ v ∷ xs) w (r ++ z ∷ zs)) (set-seam r ys y v n p) in
      let third = set-third (r ++ v ∷ xs) (r ++ v ∷ ys) (r ++ z ∷ zs) k n (length-row r xs v n l p q e)
      (length-row r ys v n l p s e) v
      ∙ ap (λ w. three (r ++ v ∷ xs) (r ++ v ∷ ys) w) (set-seam r zs z v n p) in
      ap (λ w. slice_set (slice_set w (k + n) v) (k + (k + n)) v) first
      ∙ ap (λ w. slice_set w (k + (k + n)) v) second ∙ third ∙ words-more r xs ys zs v

  abbrev Ends : ℕ → List Frame → List ℕ → List Datum → List Item → List ℕ → Type 0
  Ends n fs ws vs is after = (ls : List (ℕ × Datum)) × (solo (solo_step a) n fs ws ≡ goes (th ls vs is) after)

  pub repairs : (ms : List Copied) (r xs ys zs : List ℕ) (ls : List (ℕ × Datum)) (vs : List Datum) (is : List Item)
      (n : ℕ)
      → LaidFrom n ms → length r ≡ n → k ≡ n + length ms → Fit (member_kinds ms) xs → Fit (unsigned_kinds ms) ys
      → Fit (unsigned_kinds ms) zs
      → Fit (member_kinds ms) (majorities xs ys zs)
      → Ends (31 * length ms) (th ls vs (stmts_on (repair_block at class ms) is)) (words r xs ys zs) vs is
      (thrice (r ++ majorities xs ys zs))
  repairs [] r [] [] [] ls vs is n laid p e fx fy fz fv = (ls, refl)
  repairs [] r (x ∷ xs) ys zs ls vs is n laid p e fx fy fz fv = absurd fx
  repairs [] r [] (y ∷ ys) zs ls vs is n laid p e fx fy fz fv = absurd fy
  repairs [] r [] [] (z ∷ zs) ls vs is n laid p e fx fy fz fv = absurd fz
  repairs (m ∷ ms) r [] ys zs ls vs is n laid p e fx fy fz fv = absurd fx
  repairs (m ∷ ms) r (x ∷ xs) [] zs ls vs is n laid p e fx fy fz fv = absurd fy
  repairs (m ∷ ms) r (x ∷ xs) (y ∷ ys) [] ls vs is n laid p e fx fy fz fv = absurd fz
  repairs (m ∷ ms) r (x ∷ xs) (y ∷ ys) (z ∷ zs) ls vs is n laid p e fx fy fz fv =
      let lx : length xs ≡ length ms = fit-length (member_kinds ms) xs fx.1
      ∙ length-map (λ (q : Copied). q.member.kind) ms in
      let ly : length ys ≡ length ms = fit-length (unsigned_kinds ms) ys fy.1 ∙ length-map kind_of ms in
      let lz : length zs ≡ length ms = fit-length (unsigned_kinds ms) zs fz.1 ∙ length-map kind_of ms in
      let ra : length (r ++ x ∷ xs) ≡ k = length-row r xs x n (length ms) p lx e in
      let rb : length (r ++ y ∷ ys) ≡ k = length-row r ys y n (length ms) p ly e in
      let rc : length (r ++ z ∷ zs) ≡ k = length-row r zs z n (length ms) p lz e in
      let all : length (words r (x ∷ xs) (y ∷ ys) (z ∷ zs))
      ≡ k + (k + k) = length-three (r ++ x ∷ xs) (r ++ y ∷ ys) (r ++ z ∷ zs) ra rb rc in
      let now = member-repairs a f own-object at class of m n (k + n) (k + (k + n)) laid.0 laid.1 laid.2 ls
      (words r (x ∷ xs) (y ∷ ys) (z ∷ zs)) x y z
      (get-first (r ++ x ∷ xs) (r ++ y ∷ ys) (r ++ z ∷ zs) k n ra rb x (get-seam r xs x n p))
      (get-second (r ++ x ∷ xs) (r ++ y ∷ ys) (r ++ z ∷ zs) k n ra rb y (get-seam r ys y n p))
      (get-third (r ++ x ∷ xs) (r ++ y ∷ ys) (r ++ z ∷ zs) k n ra rb z (get-seam r zs z n p))
      fx.0 fy.0 fz.0 (repair_block at class ms) vs is fv.0 (omega arith) (omega arith) (omega arith) in
      let later = repairs ms (r ++ majority x y z ∷ []) xs ys zs
      (with_entry ls m.vote (from_bits_of (kind_of m) (majority x y z))) vs is (suc n) laid.3
      (length-more r (majority x y z) n p) (omega arith) fx.1 fy.1 fz.1 fv.1 in (
        later.0,
        subst (λ steps. solo (solo_step a) steps (th ls vs (stmts_on (repair_block at class (m ∷ ms)) is))
            (words r (x ∷ xs) (y ∷ ys) (z ∷ zs))
            ≡ goes (th later.0 vs is) (thrice (r ++ majority x y z ∷ majorities xs ys zs)))
            (let d : 31 + 31 * length ms ≡ 31 * suc (length ms) = omega arith in d)
            (and-more (solo_step a) 31 (31 * length ms) (th ls vs (stmts_on (repair_block at class (m ∷ ms)) is))
            (th (with_entry ls m.vote (from_bits_of (kind_of m) (majority x y z))) vs
            (stmts_on (repair_block at class ms) is))
            (words r (x ∷ xs) (y ∷ ys) (z ∷ zs)) (words (r ++ majority x y z ∷ []) xs ys zs) _
            (now ∙ ap (λ w. goes (th (with_entry ls m.vote (from_bits_of (kind_of m) (majority x y z))) vs
            (stmts_on (repair_block at class ms) is)) w)
            (set-all r xs ys zs x y z (majority x y z) n (length ms) p lx ly lz e))
            (later.1 ∙ ap (λ w. goes (th later.0 vs is) (thrice w))
            (more-seam r (majorities xs ys zs) (majority x y z)))),
      )

  pub renews : (ms : List Copied) (r xs ys zs : List ℕ) (ls : List (ℕ × Datum)) (vs : List Datum) (is : List Item)
      (n : ℕ)
      → LaidFrom n ms → length r ≡ n → k ≡ n + length ms → Fit (member_kinds ms) xs → Fit (unsigned_kinds ms) ys
      → Fit (unsigned_kinds ms) zs
      → solo (solo_step a) (6 * length ms) (th ls vs (stmts_on (renew_block at class ms) is)) (words r xs ys zs)
      ≡ goes (th ls vs is) (thrice (r ++ xs))
  renews [] r [] [] [] ls vs is n laid p e fx fy fz = refl
  renews [] r (x ∷ xs) ys zs ls vs is n laid p e fx fy fz = absurd fx
  renews [] r [] (y ∷ ys) zs ls vs is n laid p e fx fy fz = absurd fy
  renews [] r [] [] (z ∷ zs) ls vs is n laid p e fx fy fz = absurd fz
  renews (m ∷ ms) r [] ys zs ls vs is n laid p e fx fy fz = absurd fx
  renews (m ∷ ms) r (x ∷ xs) [] zs ls vs is n laid p e fx fy fz = absurd fy
  renews (m ∷ ms) r (x ∷ xs) (y ∷ ys) [] ls vs is n laid p e fx fy fz = absurd fz
  renews (m ∷ ms) r (x ∷ xs) (y ∷ ys) (z ∷ zs) ls vs is n laid p e fx fy fz =
      let lx : length xs ≡ length ms = fit-length (member_kinds ms) xs fx.1
      ∙ length-map (λ (q : Copied). q.member.kind) ms in
      let ly : length ys ≡ length ms = fit-length (unsigned_kinds ms) ys fy.1 ∙ length-map kind_of ms in
      let lz : length zs ≡ length ms = fit-length (unsigned_kinds ms) zs fz.1 ∙ length-map kind_of ms in
      let ra : length (r ++ x ∷ xs) ≡ k = length-row r xs x n (length ms) p lx e in
      let rb : length (r ++ y ∷ ys) ≡ k = length-row r ys y n (length ms) p ly e in
      let rc : length (r ++ z ∷ zs) ≡ k = length-row r zs z n (length ms) p lz e in
      let rb' : length (r ++ x ∷ ys) ≡ k = length-row r ys x n (length ms) p ly e in
      let all : length (words r (x ∷ xs) (y ∷ ys) (z ∷ zs))
      ≡ k + (k + k) = length-three (r ++ x ∷ xs) (r ++ y ∷ ys) (r ++ z ∷ zs) ra rb rc in
      let second : slice_set (words r (x ∷ xs) (y ∷ ys) (z ∷ zs)) (k + n) x ≡ words r (x ∷ xs) (x ∷ ys) (z ∷ zs) =
      set-second (r ++ x ∷ xs) (r ++ y ∷ ys) (r ++ z ∷ zs) k n ra rb x (omega arith)
      ∙ ap (λ w. three (r ++ x ∷ xs) w (r ++ z ∷ zs)) (set-seam r ys y x n p) in
      let third : slice_set (words r (x ∷ xs) (x ∷ ys) (z ∷ zs)) (k + (k + n)) x ≡ words (r ++ x ∷ []) xs ys zs =
      set-third (r ++ x ∷ xs) (r ++ x ∷ ys) (r ++ z ∷ zs) k n ra rb' x
      ∙ ap (λ w. three (r ++ x ∷ xs) (r ++ x ∷ ys) w) (set-seam r zs z x n p) ∙ words-more r xs ys zs x in
      let now = member-renews a f own-object at class of m n (k + n) (k + (k + n)) laid.0 laid.1 laid.2 ls
      (words r (x ∷ xs) (y ∷ ys) (z ∷ zs)) x
      (get-first (r ++ x ∷ xs) (r ++ y ∷ ys) (r ++ z ∷ zs) k n ra rb x (get-seam r xs x n p))
      fx.0 (renew_block at class ms) vs is (omega arith) (omega arith)
      (ap (λ w. slice_get w n) second ∙ get-first (r ++ x ∷ xs) (r ++ x ∷ ys) (r ++ z ∷ zs) k n ra rb' x
      (get-seam r xs x n p)) in
      let later = renews ms (r ++ x ∷ []) xs ys zs ls vs is (suc n) laid.3 (length-more r x n p)
      (omega arith) fx.1 fy.1 fz.1 in
      subst (λ steps. solo (solo_step a) steps (th ls vs (stmts_on (renew_block at class (m ∷ ms)) is))
      (words r (x ∷ xs) (y ∷ ys) (z ∷ zs))
      ≡ goes (th ls vs is) (thrice (r ++ x ∷ xs)))
      (let d : 6 + 6 * length ms ≡ 6 * suc (length ms) = omega arith in d)
      (and-more (solo_step a) 6 (6 * length ms) (th ls vs (stmts_on (renew_block at class (m ∷ ms)) is))
      (th ls vs (stmts_on (renew_block at class ms) is))
      (words r (x ∷ xs) (y ∷ ys) (z ∷ zs)) (words (r ++ x ∷ []) xs ys zs) _
      (now ∙ ap (λ w. goes (th ls vs (stmts_on (renew_block at class ms) is)) w)
      (ap (λ w. slice_set w (k + (k + n)) x) second ∙ third))
      (later ∙ ap (λ w. goes (th ls vs is) (thrice w)) (more-seam r xs x)))

  -- ---- where the members stand

  get-map : {A : Type 0} (g : Copied → A) (before ms : List Copied) (m : Copied) (n : ℕ) → length before ≡ n
      → slice_get (map g (before ++ m ∷ ms)) n ≡ Some (g m)
  get-map g [] ms m zero h = refl
  get-map g [] ms m (suc n) h = absurd (omega arith)
  get-map g (b ∷ before) ms m zero h = absurd (omega arith)
  get-map g (b ∷ before) ms m (suc n) h = get-map g before ms m n (omega arith)

  pub laid-from : (before ms : List Copied) (n : ℕ) → length before ≡ n → length (before ++ ms) ≡ k
      → IsLaid a class (part_words (before ++ ms)) → LaidFrom n ms
  laid-from before [] n p e laid = tt
  laid-from before (m ∷ ms) n p e laid =
      let lm : length (map (λ (q : Copied). q.member) (before ++ m ∷ ms))
      ≡ k = length-map (λ (q : Copied). q.member) (before ++ m ∷ ms) ∙ e in
      let lf : length (map first_of (before ++ m ∷ ms)) ≡ k = length-map first_of (before ++ m ∷ ms) ∙ e in (
        laid.numbers n m.member (get-first (map (λ (q : Copied). q.member) (before ++ m ∷ ms))
            (map first_of (before ++ m ∷ ms)) (map second_of (before ++ m ∷ ms)) k n lm lf m.member
            (get-map (λ (q : Copied). q.member) before ms m n p)),
        laid.numbers (k + n) (first_of m) (get-second (map (λ (q : Copied). q.member) (before ++ m ∷ ms))
            (map first_of (before ++ m ∷ ms)) (map second_of (before ++ m ∷ ms)) k n lm lf (first_of m)
            (get-map first_of before ms m n p)),
        laid.numbers (k + (k + n)) (second_of m) (get-third (map (λ (q : Copied). q.member) (before ++ m ∷ ms))
            (map first_of (before ++ m ∷ ms)) (map second_of (before ++ m ∷ ms)) k n lm lf (second_of m)
            (get-map second_of before ms m n p)),
        laid-from (before ++ m ∷ []) ms (suc n) (length-more before m n p) (ap length (more-seam before ms m) ∙ e)
            (subst (λ l. IsLaid a class (part_words l)) (sym (more-seam before ms m)) laid),
      )

-- ---- words of three rows

fit-split : (j l : List NumKind) (ws : List ℕ) → Fit (j ++ l) ws → (v : List ℕ) × (w : List ℕ) × (ws ≡ v ++ w)
    × Fit j v × Fit l w
fit-split [] l ws h = ([], ws, refl, tt, h)
fit-split (q ∷ j) l [] h = absurd h
fit-split (q ∷ j) l (x ∷ ws) h = let s = fit-split j l ws h.1 in (x ∷ s.0, s.1, ap (λ r. x ∷ r) s.2, (h.0, s.3), s.4)

kinds-split : (ms : List Copied) → kinds_of (part_words ms)
    ≡ member_kinds ms ++ (unsigned_kinds ms ++ unsigned_kinds ms)
kinds-split ms =
    kinds-both (map (λ (m : Copied). m.member) ms) (map first_of ms ++ map second_of ms)
    ∙ ap₂ (λ x y. x ++ y) (each-kind (λ (m : Copied). m.member) ms)
    (kinds-both (map first_of ms) (map second_of ms)
    ∙ ap₂ (λ x y. x ++ y) (each-kind first_of ms) (each-kind second_of ms))
  where
    kinds-both : (x y : List CoreWord) → kinds_of (x ++ y) ≡ kinds_of x ++ kinds_of y
    kinds-both [] y = refl
    kinds-both (w ∷ x) y = ap (λ l. w.kind ∷ l) (kinds-both x y)

    each-kind : (g : Copied → CoreWord) (ms : List Copied) → kinds_of (map g ms) ≡ map (λ (m : Copied). (g m).kind) ms
    each-kind g [] = refl
    each-kind g (m ∷ ms) = ap (λ l. (g m).kind ∷ l) (each-kind g ms)

-- the words of a part, in three rows that fit
record Rows (ms : List Copied) (ws : List ℕ) : Type 0 where
  x : List ℕ
  y : List ℕ
  z : List ℕ
  is : ws ≡ three x y z
  fit-x : Fit (member_kinds ms) x
  fit-y : Fit (unsigned_kinds ms) y
  fit-z : Fit (unsigned_kinds ms) z
  long-x : length x ≡ length ms
  long-y : length y ≡ length ms
  long-z : length z ≡ length ms

rows : (ms : List Copied) (ws : List ℕ) → Fit (kinds_of (part_words ms)) ws → Rows ms ws
rows ms ws h =
    let s = fit-split (member_kinds ms) (unsigned_kinds ms ++ unsigned_kinds ms) ws
    (subst (λ kinds. Fit kinds ws) (kinds-split ms) h) in
    let t = fit-split (unsigned_kinds ms) (unsigned_kinds ms) s.1 s.4 in
    record {
      x = s.0;
      y = t.0;
      z = t.1;
      is = s.2 ∙ ap (λ l. s.0 ++ l) t.2;
      fit-x = s.3;
      fit-y = t.3;
      fit-z = t.4;
      long-x = fit-length (member_kinds ms) s.0 s.3 ∙ length-map (λ (q : Copied). q.member.kind) ms;
      long-y = fit-length (unsigned_kinds ms) t.0 t.3 ∙ length-map kind_of ms;
      long-z = fit-length (unsigned_kinds ms) t.1 t.4 ∙ length-map kind_of ms;
    }

length-majorities : (x y z : List ℕ) (n : ℕ) → length x ≡ n → length y ≡ n → length z ≡ n
    → length (majorities x y z) ≡ n
length-majorities [] y z n p q r = p
length-majorities (a ∷ x) [] z n p q r = absurd (omega arith)
length-majorities (a ∷ x) (b ∷ y) [] n p q r = absurd (omega arith)
length-majorities (a ∷ x) (b ∷ y) (c ∷ z) zero p q r = absurd (omega arith)
length-majorities (a ∷ x) (b ∷ y) (c ∷ z) (suc n) p q r = ap (λ n. suc n)
    (length-majorities x y z n (omega arith) (omega arith) (omega arith))

module _ (a : Alone) (at : Place) (class : ClassId) (ms : List Copied) (f : Frame) (items : List Item)
    (ws : List ℕ) (laid : IsLaid a class (part_words ms)) (own : f.this ≡ Some a.object) (s : Rows ms ws) where
  repaired-is : copies.repaired (unsigned_kinds ms) ws ≡ thrice (majorities s.x s.y s.z)
  repaired-is =
      ap thrice (ap (λ n. voted n ws) (length-map kind_of ms) ∙ ap (voted (length ms)) s.is
      ∙ voted-of (length ms) s.x s.y s.z s.long-x s.long-y)

  becomes : Fit (member_kinds ms) (take (length ms) (copies.repaired (unsigned_kinds ms) ws))
      → Fit (member_kinds ms) (majorities s.x s.y s.z)
  becomes h =
      let m = majorities s.x s.y s.z in
      subst (λ l. Fit (member_kinds ms) l)
      (ap (take (length ms)) repaired-is ∙ take-first m (m ++ m) (length ms)
      (length-majorities s.x s.y s.z (length ms) s.long-x s.long-y s.long-z)) h

  repaired : Fit (member_kinds ms) (take (length ms) (copies.repaired (unsigned_kinds ms) ws))
      → Comes a f (repair_block at class ms) items ws (copies.repaired (unsigned_kinds ms) ws)
      (28 * ((length ms + 4) * (2 + 4)))
  repaired h =
      let r = repairs a f own at class laid.is_of (length ms) ms [] s.x s.y s.z f.locals f.values items 0
      (laid-from a f own at class laid.is_of (length ms) [] ms 0 refl refl laid) refl (omega arith)
      s.fit-x s.fit-y s.fit-z (becomes h) in
      record {
        steps = 31 * length ms;
        few = omega arith;
        locals = r.0;
        comes = ap (λ w. solo (solo_step a) (31 * length ms)
            (record f { items = stmts_on (repair_block at class ms) items } ∷ []) w) s.is ∙ r.1
            ∙ ap (λ w. goes (record f { locals = r.0; items = items } ∷ []) w) (sym repaired-is);
      }

  renewed : Comes a f (renew_block at class ms) items ws (copies.encoded (unsigned_kinds ms) (take (length ms) ws))
      (28 * ((length ms + 4) * (2 + 4)))
  renewed =
      let r = renews a f own at class laid.is_of (length ms) ms [] s.x s.y s.z f.locals f.values items 0
      (laid-from a f own at class laid.is_of (length ms) [] ms 0 refl refl laid) refl (omega arith)
      s.fit-x s.fit-y s.fit-z in
      record {
        steps = 6 * length ms;
        few = omega arith;
        locals = f.locals;
        comes = ap (λ w. solo (solo_step a) (6 * length ms)
            (record f { items = stmts_on (renew_block at class ms) items } ∷ []) w) s.is ∙ r
            ∙ ap (λ w. goes (record f { items = items } ∷ []) (thrice w))
            (sym (ap (take (length ms)) s.is ∙ take-first s.x (s.y ++ s.z) (length ms) s.long-x));
      }

pub copies-run : CopiesRun
copies-run = record {
  repairs = λ a at class ms f items ws laid own fit h. repaired a at class ms f items ws laid own (rows ms ws fit) h;
  renews = λ a at class ms f items ws laid own fit. renewed a at class ms f items ws laid own (rows ms ws fit);
}
