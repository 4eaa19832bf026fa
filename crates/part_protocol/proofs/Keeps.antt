-- Each turn keeps what holds of a part.
use Rattle.std.proofs.Common.{◌≡◌, ℕ, zero, suc, ◌<◌, ◌≤◌, ◌⊎◌, inl, inr, List, [], ◌∷◌, Option, Some, None, refl, sym, ap, subst, ◌∙◌, arith}
use Rattle.std.specs.Prelude.{Bool, true, false, ◌^◌, pred, take, slice_set}
use Rattle.step_machine.specs.Frame.{Frame}
use Rattle.codec_laws.specs.Solo.{solo, goes}
use Rattle.fault_model.specs.Admissible.{Hit}
use Rattle.part_protocol.specs.Gate as gate
use Rattle.part_protocol.specs.Gate.{owed, engaged, Step}
use Rattle.part_protocol.specs.Part.{Part, gate_of, enter_waits, enter_runs, enter_unlocks, enter_ends, leave_waits, leave_counts, leave_runs, leave_ends, Position, outside, entry, exit, Role, phase_of, standing_of}
use Rattle.part_protocol.specs.Rules.{Rules, WordsFit, ValuesFit, members_of}
use Rattle.part_protocol.specs.BlockLaws.{BlockLaws}
use Rattle.part_protocol.specs.Invariant.{Rest, Open, Surely, Busy, PartInv}
use Rattle.part_protocol.specs.Moves.{is_holding, Quiets, stays, calls_enter, ends_enter, calls_leave, ends_leave, Grabs, grabs_enter, grabs_leave, Runs, Works, enter_goes, enter_adds, leave_goes, leave_takes, rest_goes, Frees, frees_enter, frees_leave, Move, quiet, grab, work, free, stores}
use Rattle.part_protocol.specs.Laws.{hits_after}
use Rattle.part_protocol.proofs.Sure.{Nearer, nearer, arrived}

pub clear-after : (inside : ℕ) (hits : List Hit) → 0 < inside → hits_after inside hits ≡ []
clear-after zero hits h = absurd (omega arith)
clear-after (suc inside) hits h = refl

pub same-after : (inside : ℕ) (hits : List Hit) → inside ≡ 0 → hits_after inside hits ≡ hits
same-after inside hits e = ap (λ n. hits_after n hits) e

take-set : (k : ℕ) (ws : List ℕ) (i bits : ℕ) → take k (slice_set ws i bits) ≡ slice_set (take k ws) i bits
take-set zero [] i bits = refl
take-set zero (w ∷ ws) i bits = refl
take-set (suc k) [] i bits = refl
take-set (suc k) (w ∷ ws) zero bits = refl
take-set (suc k) (w ∷ ws) (suc i) bits = ap (λ l. w ∷ l) (take-set k ws i bits)

module _ (R : Rules) where
  -- whoever does not hold the lock asks nothing of the part
  pub idle : (v : List ℕ) (a : Part) (x : Position) → is_holding R x ≡ false → Busy R v a x
  idle v a outside h = tt
  idle v a (entry enter_waits) h = tt
  idle v a (entry (enter_runs d fs)) h = absurd (cc)
  idle v a (entry enter_unlocks) h = absurd (cc)
  idle v a (entry enter_ends) h = tt
  idle v a (exit leave_waits) h = tt
  idle v a (exit (leave_counts d fs)) h = absurd (cc)
  idle v a (exit (leave_runs d fs)) h = absurd (cc)
  idle v a (exit leave_ends) h = tt

  -- the numbers of frames and the flips go on
  pub record Goes (hits hits' : List Hit) (s s' i i' : ℕ) : Type 0 where
    pub none : s ≡ 0 → s' ≡ 0
    pub out : s ≡ 0 → i' ≡ 0 → i ≡ 0
    pub flip : i' ≡ 0 → hits' ≡ hits
    pub clear : 0 < i → hits ≡ []

  rest-on : (v : List ℕ) (hits hits' : List Hit) (ws : List ℕ) (s s' i i' : ℕ) → Goes hits hits' s s' i i' → Rest R v hits ws s i → Rest R v hits' ws s' i'
  rest-on v hits hits' ws s s' i i' g r = record {
    flips = r.flips;
    together = r.together;
    words = r.words;
    why = elim r.why [ inl e ↦ inl e | inr h ↦ inr (g.none h) ];
    told = λ z. g.flip z ∙ tells z r.why i refl;
  }
    where
      tells : i' ≡ 0 → (r.flips ≡ []) ⊎ (s ≡ 0) → (n : ℕ) → i ≡ n → hits ≡ r.flips
      tells z h zero e = r.told e
      tells z (inl f) (suc n) e = g.clear (omega arith) ∙ sym f
      tells z (inr f) (suc n) e = r.told (g.out f z)

  pub open-on : (v : List ℕ) (hits hits' : List Hit) (a : Part) (s s' i i' : ℕ) → Goes hits hits' s s' i i' → Open R v hits a s i → Open R v hits' a s' i'
  open-on v hits hits' a s s' i i' g o = record { above = o.above; zeroed = λ z. rest-on v hits hits' a.words s s' i i' g (o.zeroed z) }

  -- ---- a member takes a value

  module _ (v : List ℕ) (a : Part) (i bits : ℕ) (above : 0 < a.count) where
    abbrev stored : Part
    stored = record a { words = slice_set a.words i bits }

    members-stored : members_of R a.words ≡ v → members_of R stored.words ≡ slice_set v i bits
    members-stored e = take-set R.members a.words i bits ∙ ap (λ l. slice_set l i bits) e

    surely-stored : (most d : ℕ) (fs target : List Frame) → Surely R most v a d fs target → Surely R most (slice_set v i bits) stored d fs target
    surely-stored most d fs target s = record { steps = s.steps; few = s.few; alone = λ z. absurd (omega arith); others = s.others }

    pub busy-stored : (x : Position) → Busy R v a x → Busy R (slice_set v i bits) stored x
    busy-stored outside b = tt
    busy-stored (entry enter_waits) b = tt
    busy-stored (entry (enter_runs d fs)) b = (λ h. members-stored (b.0 h), surely-stored R.most d fs _ b.1)
    busy-stored (entry enter_unlocks) b = (b.0, members-stored b.1)
    busy-stored (entry enter_ends) b = tt
    busy-stored (exit leave_waits) b = tt
    busy-stored (exit (leave_counts d fs)) b = (b.0, members-stored b.1, surely-stored R.few d fs _ b.2)
    busy-stored (exit (leave_runs d fs)) b = (λ h. members-stored (b.0 h), surely-stored R.most d fs _ b.1)
    busy-stored (exit leave_ends) b = tt

    pub open-stored : (hits hits' : List Hit) (s s' j j' : ℕ) → Open R v hits a s j → Open R (slice_set v i bits) hits' stored s' j'
    open-stored hits hits' s s' j j' o = record { above = λ h. members-stored (o.above h); zeroed = λ z. absurd (omega arith) }

  -- ---- what the moves say of the lock and the counter

  pub grab-holds : (x y : Position) → Grabs R x y → is_holding R y ≡ true
  grab-holds x y grabs_enter = refl
  grab-holds x y grabs_leave = refl

  pub work-holds : (a a' : Part) (x y : Position) → Works R a a' x y → (is_holding R x ≡ true) × (a'.lock ≡ a.lock)
  work-holds a a' x y (enter_goes d fs next r) = (refl, ap (λ p. p.lock) r.then)
  work-holds a a' x y (enter_adds d fs e ea) = (refl, ap (λ p. p.lock) ea)
  work-holds a a' x y (leave_goes d fs next r) = (refl, ap (λ p. p.lock) r.then)
  work-holds a a' x y (leave_takes d fs e ea) = (refl, ap (λ p. p.lock) ea)
  work-holds a a' x y (rest_goes d fs next r) = (refl, ap (λ p. p.lock) r.then)

  pub free-holds : (r r' : Role) → Frees R r r' → (is_holding R r.position ≡ true) × (is_holding R r'.position ≡ false)
  free-holds r r' (frees_enter e e') = (ap (is_holding R) e, ap (is_holding R) e')
  free-holds r r' (frees_leave d h p e e') = (ap (is_holding R) e, ap (is_holding R) e')

  pub quiet-off : (x y : Position) → Quiets R x y → (is_holding R x ≡ false) × (is_holding R y ≡ false)
  quiet-off x y (stays z h) = (h, h)
  quiet-off x y calls_enter = (refl, refl)
  quiet-off x y ends_enter = (refl, refl)
  quiet-off x y calls_leave = (refl, refl)
  quiet-off x y ends_leave = (refl, refl)

  pub quiet-step : (x y : Position) → Quiets R x y → gate.Quiet (phase_of R.mending x) (phase_of R.mending y)
  quiet-step x y (stays z h) = gate.stays (phase_of R.mending z) h
  quiet-step x y calls_enter = gate.calls_in
  quiet-step x y ends_enter = gate.ends_in
  quiet-step x y calls_leave = gate.calls_out
  quiet-step x y ends_leave = gate.ends_out

  module _ (laws : BlockLaws R) where
    grab-step : (x y : Position) → Grabs R x y → gate.Grab (phase_of R.mending x) (phase_of R.mending y)
    grab-step x y grabs_enter = subst (λ b. gate.Grab gate.wants_in (gate.comes_in b)) (sym laws.enter_idle) gate.grabs_in
    grab-step x y grabs_leave = gate.grabs_out

    -- ---- a step between lock and unlock

    module _ (v : List ℕ) (a a' : Part) (fit : WordsFit R a.words) where
      enter-nearer : (d : ℕ) (fs next : List Frame) → (r : Runs R a a' fs next) → Surely R R.most v a d fs (R.enter_puts a.count)
          → Nearer R R.most v a d (R.enter_puts a.count) next r.words
      enter-nearer d fs next r s = nearer R R.most v a d fs (R.enter_puts a.count) fit s (laws.enter_stuck a.count a.words fit) next r.words r.step

      leave-nearer : (d : ℕ) (fs next : List Frame) → (r : Runs R a a' fs next) → Surely R R.few v a d fs (R.leave_puts a.count)
          → Nearer R R.few v a d (R.leave_puts a.count) next r.words
      leave-nearer d fs next r s = nearer R R.few v a d fs (R.leave_puts a.count) fit s (laws.leave_stuck a.count a.words fit) next r.words r.step

      rest-nearer : (d : ℕ) (fs next : List Frame) → (r : Runs R a a' fs next) → Surely R R.most v a d fs R.leave_frees
          → Nearer R R.most v a d R.leave_frees next r.words
      rest-nearer d fs next r s = nearer R R.most v a d fs R.leave_frees fit s (laws.free_stuck a.count a.words fit) next r.words r.step

      -- what mends does so with nobody engaged
      mends-zero : (m : Bool) → (0 < a.count → m ≡ false) → m ≡ true → a.count ≡ 0
      mends-zero m h e = by-count a.count refl
        where
          by-count : (n : ℕ) → n ≡ a.count → a.count ≡ 0
          by-count zero c = sym c
          by-count (suc n) c = absurd (let f = h (subst (λ k. 0 < k) c (omega arith)) in cc)

      pub work-step : (x y : Position) → Works R a a' x y → Busy R v a x → gate.Work (gate_of a) (gate_of a') (phase_of R.mending x) (phase_of R.mending y)
      work-step x y (enter_goes d fs next r) b =
          gate.enters (R.mending fs) (R.mending next) (mends-zero (R.mending next) ((enter-nearer d fs next r b.1).idle (laws.puts_idle a.count))) (ap gate_of r.then)
      work-step x y (enter_adds d fs e ea) b = gate.adds (R.mending fs) (ap gate_of ea)
      work-step x y (leave_goes d fs next r) b = gate.leaves (ap gate_of r.then)
      work-step x y (leave_takes d fs e ea) b =
          subst (λ m. gate.Work (gate_of a) (gate_of a') gate.goes_out (gate.went_out m)) (sym laws.taken_idle) (gate.takes (ap gate_of ea))
      work-step x y (rest_goes d fs next r) b =
          gate.renews (R.mending fs) (R.mending next) (mends-zero (R.mending next) ((rest-nearer d fs next r b.1).idle laws.free_idle)) (ap gate_of r.then)

      -- with words that may have changed
      ran : (fs next : List Frame) (F : Part → Type 0) → (r : Runs R a a' fs next) → F (record a { words = r.words }) → F a'
      ran fs next F r h = subst F (sym r.then) h

      members-on : (ws : List ℕ) → (0 < a.count → ws ≡ a.words) → (0 < a.count → members_of R a.words ≡ v) → 0 < a.count → members_of R ws ≡ v
      members-on ws same members h = ap (members_of R) (same h) ∙ members h

      module _ (values : ValuesFit R v) (small : a'.count < 2 ^ 32) where
        -- where the counter is stored, the members are the source's
        members-there : (d : ℕ) (fs : List Frame) → fs ≡ R.enter_puts a.count → (0 < a.count → members_of R a.words ≡ v) → Surely R R.most v a d fs (R.enter_puts a.count)
            → members_of R a.words ≡ v
        members-there d fs e above s = by-count a.count refl
          where
            by-count : (n : ℕ) → n ≡ a.count → members_of R a.words ≡ v
            by-count zero c = ap (members_of R) (arrived R R.most v a d fs (R.enter_puts a.count) fit s (laws.enter_stuck a.count a.words fit) e (sym c)) ∙ laws.members_first v values
            by-count (suc n) c = above (subst (λ k. 0 < k) c (omega arith))

        -- behind the store of a leave, what is left comes to the unlock
        surely-taken : (m : ℕ) → members_of R a.words ≡ v → m < 2 ^ 32 → Surely R R.most v (record a { count = m }) 0 R.leave_taken R.leave_frees
        surely-taken zero members below =
            let run = laws.renew_alone a.words fit in
            record {
              steps = run.0;
              few = (let few = run.1 in omega arith);
              alone = λ z. run.2 ∙ ap (λ u. goes R.leave_frees (R.encoded u)) members;
              others = λ h. absurd (omega arith);
            }
        surely-taken (suc m) members below =
            let run = laws.renew_others (suc m) (omega arith) below in
            record { steps = run.0; few = (let few = run.1 in omega arith); alone = λ z. absurd (omega arith); others = λ h. run.2 }

        pub work-busy : (x y : Position) → Works R a a' x y → Busy R v a x → Busy R v a' y
        work-busy x y (enter_goes d fs next r) b =
            let on = enter-nearer d fs next r b.1 in
            ran fs next (λ p. Busy R v p (entry (enter_runs (suc d) next))) r (members-on r.words on.unchanged b.0, on.surely)
        work-busy x y (enter_adds d fs e ea) b =
            subst (λ p. Busy R v p (entry enter_unlocks)) (sym ea) (omega arith, members-there d fs e b.0 b.1)
        work-busy x y (leave_goes d fs next r) b =
            let on = leave-nearer d fs next r b.2 in
            ran fs next (λ p. Busy R v p (exit (leave_counts (suc d) next))) r (b.0, members-on r.words on.unchanged (λ h. b.1) b.0, on.surely)
        work-busy x y (leave_takes d fs e ea) b =
            subst (λ p. Busy R v p (exit (leave_runs 0 R.leave_taken))) (sym ea)
            (λ h. b.1, surely-taken (pred a.count) b.1 (subst (λ p. p.count < 2 ^ 32) ea small))
        work-busy x y (rest_goes d fs next r) b =
            let on = rest-nearer d fs next r b.1 in
            ran fs next (λ p. Busy R v p (exit (leave_runs (suc d) next))) r (members-on r.words on.unchanged b.0, on.surely)

      pub work-fit : (x y : Position) → Works R a a' x y → WordsFit R a'.words
      work-fit x y (enter_goes d fs next r) = ran fs next (λ p. WordsFit R p.words) r r.fit
      work-fit x y (enter_adds d fs e ea) = subst (λ p. WordsFit R p.words) (sym ea) fit
      work-fit x y (leave_goes d fs next r) = ran fs next (λ p. WordsFit R p.words) r r.fit
      work-fit x y (leave_takes d fs e ea) = subst (λ p. WordsFit R p.words) (sym ea) fit
      work-fit x y (rest_goes d fs next r) = ran fs next (λ p. WordsFit R p.words) r r.fit

    -- ---- the lock is taken

    module _ (v : List ℕ) (hits : List Hit) (a : Part) (s i : ℕ) (fit : WordsFit R a.words) (values : ValuesFit R v) (small : a.count < 2 ^ 32) (now : Open R v hits a s i) where
      enter-alone : a.count ≡ 0 → (k : ℕ) × (k ≤ R.most) × (solo (R.step 0) k R.enter_locked a.words ≡ goes (R.enter_puts 0) (R.encoded v))
      enter-alone z =
          let rest = now.zeroed z in
          let sound = ap R.beyond rest.words ∙ laws.within v rest.flips values rest.together in
          let mends = ap R.repaired rest.words ∙ laws.mended v rest.flips values rest.together in
          let run = laws.enter_alone a.words fit sound (subst (WordsFit R) (sym mends) (laws.fits v values)) in
          (run.0, run.1, run.2 ∙ ap (goes (R.enter_puts 0)) mends)

      enter-surely : (n : ℕ) → n ≡ a.count → (l : Option ℕ) → Surely R R.most v (record a { lock = l }) 0 R.enter_locked (R.enter_puts a.count)
      enter-surely zero c l =
          let run = enter-alone (sym c) in
          record {
            steps = run.0;
            few = (let few = run.1 in omega arith);
            alone = λ z. run.2 ∙ ap (λ n. goes (R.enter_puts n) (R.encoded v)) c;
            others = λ h. absurd (let n = c in omega arith);
          }
      enter-surely (suc n) c l =
          let run = laws.enter_others a.count (subst (λ m. 0 < m) c (omega arith)) small in
          record { steps = run.0; few = (let few = run.1 in omega arith); alone = λ z. absurd (let n = c in omega arith); others = λ h. run.2 }

      leave-surely : 0 < a.count → (l : Option ℕ) → Surely R R.few v (record a { lock = l }) 0 R.leave_locked (R.leave_puts a.count)
      leave-surely h l =
          let run = laws.leave_others a.count h small in
          record { steps = run.0; few = (let few = run.1 in omega arith); alone = λ z. absurd (omega arith); others = λ h. run.2 }

      pub grab-busy : (t : ℕ) (x y : Position) → Grabs R x y → owed (phase_of R.mending x) ≤ a.count → Busy R v (record a { lock = Some t }) y
      grab-busy t x y grabs_enter le = (now.above, enter-surely a.count refl (Some t))
      grab-busy t x y grabs_leave le = (le, now.above le, leave-surely le (Some t))

    -- ---- the lock is freed

    free-step : (r r' : Role) → Frees R r r' → gate.Free (phase_of R.mending r.position) (phase_of R.mending r'.position)
    free-step r r' (frees_enter e e') =
        subst (λ x. gate.Free (phase_of R.mending x) (phase_of R.mending r'.position)) (sym e)
        (subst (λ y. gate.Free gate.came_in (phase_of R.mending y)) (sym e') gate.frees_in)
    free-step r r' (frees_leave d h p e e') =
        subst (λ x. gate.Free (phase_of R.mending x) (phase_of R.mending r'.position)) (sym e)
        (subst (λ y. gate.Free (gate.went_out (R.mending R.leave_frees)) (phase_of R.mending y)) (sym e') (gate.frees_out (R.mending R.leave_frees)))

    pub free-open : (v : List ℕ) (hits : List Hit) (a : Part) (fit : WordsFit R a.words) (values : ValuesFit R v) (s i : ℕ) (r r' : Role) → Frees R r r' → Busy R v a r.position → r'.inside ≤ i → r'.inside ≡ r.inside
        → Open R v hits (record a { lock = None }) s i
    free-open v hits a fit values s i r r' (frees_enter e e') b le ei =
        let c = subst (Busy R v a) e b in record { above = λ h. c.1; zeroed = λ z. absurd (let h = c.0 in omega arith) }
    free-open v hits a fit values s i r r' (frees_leave d h p e e') b le ei =
        let c = subst (Busy R v a) e b in
        record {
          above = c.0;
          zeroed = λ z. record {
            flips = [];
            together = tt;
            words = arrived R R.most v a d R.leave_frees R.leave_frees fit c.1 (laws.free_stuck a.count a.words fit) refl z;
            why = inl refl;
            told = λ y. absurd (omega arith);
          };
        }

    -- ---- a move is a step at the gate

    pub step-of : (n t : ℕ) (v v' : List ℕ) (hits : List Hit) (a a' : Part) (roles roles' : ℕ → Role) → PartInv R n v hits a roles
        → Move R t (roles t) (roles' t) a a' v v' → Step t (standing_of R.mending (roles t)) (standing_of R.mending (roles' t)) (gate_of a) (gate_of a')
    step-of n t v v' hits a a' roles roles' inv (quiet q e sh ea ev) = gate.quiet (quiet-step _ _ q) e (ap gate_of ea)
    step-of n t v v' hits a a' roles roles' inv (grab g eh ep ei f ea ev) = gate.grab (grab-step _ _ g) eh f (ap gate_of ea)
    step-of n t v v' hits a a' roles roles' inv (work w eh ep ei ev) = gate.work (work-step v a a' inv.fit _ _ w (inv.busy t)) eh
    step-of n t v v' hits a a' roles roles' inv (free f eh ei ea ev) = gate.free (free-step _ _ f) eh (ap gate_of ea)
    step-of n t v v' hits a a' roles roles' inv (stores i bits e h pos ea ev fw fv) =
        gate.quiet (subst (λ r. gate.Quiet (phase_of R.mending (roles t).position) (phase_of R.mending r.position)) (sym e) (gate.stays _ h))
        (ap (λ r. engaged (standing_of R.mending r)) e) (ap gate_of ea)
