-- The lexing of whole texts.
use Rattle.std.proofs.Common.{◌≡◌, ℕ, zero, suc, List, [], ◌∷◌, ◌++◌, take, drop, length, append_assoc, append-nil, ◌⊎◌, inl, inr, refl, sym, ap, ◌∙◌, subst}
use Rattle.std.proofs.lemmas.List.{take-append-drop}
use Rattle.std.proofs.Math.Seq.{take-append_seam, drop-append_seam}
use Rattle.std.proofs.lemmas.List.Sums.{fold-append}
use Rattle.agxx_base.specs.declared.fault.Refusal.{Refusal}
use Rattle.agxx_base.specs.declared.kind.Mode.{Mode}
use Rattle.agxx_base.specs.declared.place.Place.{Place}
use Rattle.cxx_lex.specs.declared.front.Front.{Front}
use Rattle.cxx_lex.specs.declared.front.Front.TheVariants as front
use Rattle.cxx_lex.specs.declared.tok.TokKind.{TokKind}
use Rattle.cxx_lex.specs.Place.{start_of, next_place, place_after}
use Rattle.cxx_lex.specs.Tokens.{Token, IsGap, IsTokenAt, Reads, arrives, past_gap, past_token, HasTokens, RefusedFrom, RefusedAt}
use Rattle.cxx_lex.specs.Scan.{front_of}
use Rattle.cxx_lex.specs.Lexed.{Lexed, tokens, refused, before, by_front, lexed_from, lexed}
use Rattle.cxx_lex.specs.Laws.{HasOneReading, HasOneRefusal, IsNeverBoth, IsAlwaysOne, TellsTokens, TellsRefusals}
use Rattle.cxx_lex.proofs.Fronts.{IsFront, front-is, some-gap, gap-front, token-front, some-token, refused-front}

-- ---- from the relation to the function

skip : (mode : Mode) (text : List ℕ) (n : ℕ) (at : Place) → lexed_from mode at n text ≡ lexed_from mode (place_after at (take n text)) 0 (drop n text)
skip mode [] zero at = refl
skip mode [] (suc n) at = refl
skip mode (b ∷ bs) zero at = refl
skip mode (b ∷ bs) (suc n) at = skip mode bs n (next_place at b)

before-none : (l : Lexed) → before [] l ≡ l
before-none (tokens ts end) = refl
before-none (refused refusal) = refl

before-more : (t : Token) (ts : List Token) (l : Lexed) → before (t ∷ []) (before ts l) ≡ before (t ∷ ts) l
before-more t ts (tokens us end) = refl
before-more t ts (refused refusal) = refl

gap-lexed : (mode : Mode) (at : Place) (gap rest : List ℕ) → IsGap gap rest → lexed_from mode at 0 (gap ++ rest) ≡ lexed_from mode (place_after at gap) 0 rest
gap-lexed mode at gap rest g = go gap g (some-gap gap rest g)
  where
    go : (gap : List ℕ) → IsGap gap rest → (b : ℕ) × (bs : List ℕ) × (gap ≡ b ∷ bs) → lexed_from mode at 0 (gap ++ rest) ≡ lexed_from mode (place_after at gap) 0 rest
    go gap g (b, bs, e) = subst (λ z. lexed_from mode at 0 (z ++ rest) ≡ lexed_from mode (place_after at z) 0 rest) (sym e)
        (ap (λ f. by_front at (b ∷ (bs ++ rest)) f (λ n. lexed_from mode (next_place at b) n (bs ++ rest))) (gap-front mode (b ∷ bs) rest (subst (λ z. IsGap z rest) e g))
        ∙ skip mode (bs ++ rest) (length bs) (next_place at b)
        ∙ ap (λ z. lexed_from mode (place_after (next_place at b) z) 0 (drop (length bs) (bs ++ rest))) (take-append_seam bs rest)
        ∙ ap (lexed_from mode (place_after (next_place at b) bs) 0) (drop-append_seam bs rest))

token-lexed : (mode : Mode) (at : Place) (token : TokKind) (text rest : List ℕ) → IsTokenAt mode token text rest
    → lexed_from mode at 0 (text ++ rest) ≡ before (record { kind = token; text = text; at = at } ∷ []) (lexed_from mode (place_after at text) 0 rest)
token-lexed mode at token text rest i = go text i (some-token mode token text rest i)
  where
    go : (text : List ℕ) → IsTokenAt mode token text rest → (b : ℕ) × (bs : List ℕ) × (text ≡ b ∷ bs)
        → lexed_from mode at 0 (text ++ rest) ≡ before (record { kind = token; text = text; at = at } ∷ []) (lexed_from mode (place_after at text) 0 rest)
    go text i (b, bs, e) = subst (λ z. lexed_from mode at 0 (z ++ rest) ≡ before (record { kind = token; text = z; at = at } ∷ []) (lexed_from mode (place_after at z) 0 rest)) (sym e)
        (ap (λ f. by_front at (b ∷ (bs ++ rest)) f (λ n. lexed_from mode (next_place at b) n (bs ++ rest))) (token-front mode token (b ∷ bs) rest (subst (λ z. IsTokenAt mode token z rest) e i))
        ∙ ap (λ z. before (record { kind = token; text = b ∷ z; at = at } ∷ []) (lexed_from mode (next_place at b) (length bs) (bs ++ rest))) (take-append_seam bs rest)
        ∙ ap (before (record { kind = token; text = b ∷ bs; at = at } ∷ [])) (skip mode (bs ++ rest) (length bs) (next_place at b)
        ∙ ap (λ z. lexed_from mode (place_after (next_place at b) z) 0 (drop (length bs) (bs ++ rest))) (take-append_seam bs rest)
        ∙ ap (lexed_from mode (place_after (next_place at b) bs) 0) (drop-append_seam bs rest)))

-- what is read stands before what is left
pub reads-lexed : (mode : Mode) (at : Place) (text : List ℕ) (ts : List Token) (end : Place) (left : List ℕ) → Reads mode at text ts end left → lexed_from mode at 0 text ≡ before ts (lexed_from mode end 0 left)
reads-lexed mode at text ts end left (arrives a t) = sym (before-none (lexed_from mode a 0 t))
reads-lexed mode at text ts end left (past_gap a t gap rest us last more e g r) =
    ap (lexed_from mode a 0) e ∙ gap-lexed mode a gap rest g ∙ reads-lexed mode (place_after a gap) rest us last more r
reads-lexed mode at text ts end left (past_token a t rest tok us last more e p i r) =
    ap (lexed_from mode a 0) e ∙ token-lexed mode a tok.kind tok.text rest i ∙ ap (λ z. before (record { kind = tok.kind; text = tok.text; at = z } ∷ []) (lexed_from mode (place_after a tok.text) 0 rest)) (sym p)
    ∙ ap (before (tok ∷ [])) (reads-lexed mode (place_after a tok.text) rest us last more r) ∙ before-more tok us (lexed_from mode last 0 more)

pub refused-lexed : (mode : Mode) (at : Place) (text : List ℕ) (refusal : Refusal) → RefusedFrom mode at text refusal → lexed_from mode at 0 text ≡ refused refusal
refused-lexed mode at text refusal (ts, end, left, passed, r, i, p) =
    let f = refused-front mode left refusal.rule passed i in
    let s : lexed_from mode end 0 left ≡ refused (record { rule = refusal.rule; place = place_after end (take f.n left) }) = stops left f.first f.more f.n f.some f.found in
    reads-lexed mode at text ts end left r ∙ ap (before ts) (s ∙ ap (λ z. refused (record { rule = refusal.rule; place = place_after end z })) (sym f.front_is) ∙ ap (λ z. refused (record { rule = refusal.rule; place = z })) (sym p))
  where
    stops : (left : List ℕ) (b : ℕ) (bs : List ℕ) (n : ℕ) → left ≡ b ∷ bs → front_of mode left ≡ front.Refused refusal.rule n → lexed_from mode end 0 left ≡ refused (record { rule = refusal.rule; place = place_after end (take n left) })
    stops left b bs n e f = subst (λ z. front_of mode z ≡ front.Refused refusal.rule n → lexed_from mode end 0 z ≡ refused (record { rule = refusal.rule; place = place_after end (take n z) })) (sym e)
        (λ g. ap (λ h. by_front end (b ∷ bs) h (λ k. lexed_from mode (next_place end b) k bs)) g) f

-- ---- from the function to the relation

abbrev pub Told : Mode → Place → List ℕ → Lexed → Type 0
Told mode at text (tokens ts end) = Reads mode at text ts end []
Told mode at text (refused refusal) = RefusedFrom mode at text refusal

told-gap : (mode : Mode) (at : Place) (gap rest : List ℕ) (l : Lexed) → IsGap gap rest → Told mode (place_after at gap) rest l → Told mode at (gap ++ rest) l
told-gap mode at gap rest (tokens ts end) g r = past_gap at (gap ++ rest) gap rest ts end [] refl g r
told-gap mode at gap rest (refused refusal) g (ts, end, left, passed, r, i, p) = (ts, end, left, passed, past_gap at (gap ++ rest) gap rest ts end left refl g r, i, p)

told-token : (mode : Mode) (at : Place) (token : TokKind) (text rest : List ℕ) (l : Lexed) → IsTokenAt mode token text rest → Told mode (place_after at text) rest l
    → Told mode at (text ++ rest) (before (record { kind = token; text = text; at = at } ∷ []) l)
told-token mode at token text rest (tokens ts end) i r = past_token at (text ++ rest) rest (record { kind = token; text = text; at = at }) ts end [] refl refl i r
told-token mode at token text rest (refused refusal) i (ts, end, left, passed, r, j, p) =
    (record { kind = token; text = text; at = at } ∷ ts, end, left, passed, past_token at (text ++ rest) rest (record { kind = token; text = text; at = at }) ts end left refl refl i r, j, p)

told-front : (mode : Mode) (at : Place) (b : ℕ) (bs : List ℕ) (f : Front) (next : ℕ → Lexed) → IsFront mode (b ∷ bs) f
    → ((n : ℕ) → Told mode (place_after (next_place at b) (take n bs)) (drop n bs) (next n)) → Told mode at (b ∷ bs) (by_front at (b ∷ bs) f next)
told-front mode at b bs (front.Gap n) next (g, (m, e)) h =
    subst (λ k. IsGap (take k (b ∷ bs)) (drop k (b ∷ bs)) → Told mode at (b ∷ bs) (by_front at (b ∷ bs) (front.Gap k) next)) (sym e)
    (λ i. subst (λ z. Told mode at (b ∷ z) (next m)) (take-append-drop m bs) (told-gap mode at (b ∷ take m bs) (drop m bs) (next m) i (h m))) g
told-front mode at b bs (front.Token token n) next (i, (m, e)) h =
    subst (λ k. IsTokenAt mode token (take k (b ∷ bs)) (drop k (b ∷ bs)) → Told mode at (b ∷ bs) (by_front at (b ∷ bs) (front.Token token k) next)) (sym e)
    (λ j. subst (λ z. Told mode at (b ∷ z) (before (record { kind = token; text = b ∷ take m bs; at = at } ∷ []) (next m))) (take-append-drop m bs) (told-token mode at token (b ∷ take m bs) (drop m bs) (next m) j (h m))) i
told-front mode at b bs (front.Refused rule n) next i h = ([], at, b ∷ bs, take n (b ∷ bs), arrives at (b ∷ bs), i, refl)

told : (mode : Mode) (text : List ℕ) (n : ℕ) (at : Place) → Told mode (place_after at (take n text)) (drop n text) (lexed_from mode at n text)
told mode [] zero at = arrives at []
told mode [] (suc n) at = arrives at []
told mode (b ∷ bs) (suc n) at = told mode bs n (next_place at b)
told mode (b ∷ bs) zero at = told-front mode at b bs (front_of mode (b ∷ bs)) (λ n. lexed_from mode (next_place at b) n bs) (front-is mode b bs) (λ n. told mode bs n (next_place at b))

pub lexed-told : (mode : Mode) (at : Place) (text : List ℕ) → Told mode at text (lexed_from mode at 0 text)
lexed-told mode at text = told mode text 0 at

-- ---- the laws

pub has_tokens : (mode : Mode) (file : ℕ) (text : List ℕ) (ts : List Token) (end : Place) → HasTokens mode file text ts end → lexed mode file text ≡ tokens ts end
unfolding lexed
has_tokens mode file text ts end r = reads-lexed mode (start_of file) text ts end [] r ∙ ap (λ z. tokens z end) (append-nil ts)

pub is_refused : (mode : Mode) (file : ℕ) (text : List ℕ) (refusal : Refusal) → RefusedAt mode file text refusal → lexed mode file text ≡ refused refusal
unfolding lexed
is_refused mode file text refusal r = refused-lexed mode (start_of file) text refusal r

told_whole : (mode : Mode) (file : ℕ) (text : List ℕ) → Told mode (start_of file) text (lexed mode file text)
unfolding lexed
told_whole mode file text = lexed-told mode (start_of file) text

pub tells_tokens : TellsTokens
tells_tokens mode file text ts end = (λ e. subst (Told mode (start_of file) text) e (told_whole mode file text), has_tokens mode file text ts end)

pub tells_refusals : TellsRefusals
tells_refusals mode file text refusal = (λ e. subst (Told mode (start_of file) text) e (told_whole mode file text), is_refused mode file text refusal)

same-tokens : (ts us : List Token) (end last : Place) → tokens ts end ≡ tokens us last → (ts ≡ us) × (end ≡ last)
same-tokens ts us end last e = (cc, cc)

same-refusal : (first second : Refusal) → refused first ≡ refused second → first ≡ second
same-refusal first second e = cc

apart : (ts : List Token) (end : Place) (refusal : Refusal) → tokens ts end ≡ refused refusal → ⊥
apart ts end refusal e = cc

pub one_reading : HasOneReading
one_reading mode file text ts us end last r s = same-tokens ts us end last (sym (has_tokens mode file text ts end r) ∙ has_tokens mode file text us last s)

pub one_refusal : HasOneRefusal
one_refusal mode file text first second r s = same-refusal first second (sym (is_refused mode file text first r) ∙ is_refused mode file text second s)

pub never_both : IsNeverBoth
never_both mode file text ts end refusal r s = apart ts end refusal (sym (has_tokens mode file text ts end r) ∙ is_refused mode file text refusal s)

pub always_one : IsAlwaysOne
always_one mode file text = go (lexed mode file text) (told_whole mode file text)
  where
    go : (l : Lexed) → Told mode (start_of file) text l → ((ts : List Token) × (end : Place) × HasTokens mode file text ts end) ⊎ ((refusal : Refusal) × RefusedAt mode file text refusal)
    go (tokens ts end) r = inl (ts, end, r)
    go (refused refusal) r = inr (refusal, r)

-- ---- steps put together

-- the place that is reached is the one behind what was read
pub reads-place : (mode : Mode) (at : Place) (text : List ℕ) (ts : List Token) (end : Place) (left : List ℕ) → Reads mode at text ts end left → (front : List ℕ) × (text ≡ front ++ left) × (end ≡ place_after at front)
reads-place mode at text ts end left (arrives a t) = ([], refl, refl)
reads-place mode at text ts end left (past_gap a t gap rest us last more e g r) =
    let i = reads-place mode (place_after a gap) rest us last more r in
    (gap ++ i.0, e ∙ ap (λ z. gap ++ z) i.1 ∙ sym (append_assoc gap i.0 more), i.2 ∙ sym (fold-append next_place a gap i.0))
reads-place mode at text ts end left (past_token a t rest tok us last more e p i r) =
    let j = reads-place mode (place_after a tok.text) rest us last more r in
    (tok.text ++ j.0, e ∙ ap (λ z. tok.text ++ z) j.1 ∙ sym (append_assoc tok.text j.0 more), j.2 ∙ sym (fold-append next_place a tok.text j.0))

pub reads-on : (mode : Mode) (at : Place) (text : List ℕ) (ts : List Token) (mid : Place) (rest : List ℕ) (us : List Token) (end : Place) (left : List ℕ) → Reads mode at text ts mid rest → Reads mode mid rest us end left → Reads mode at text (ts ++ us) end left
reads-on mode at text ts mid rest us end left (arrives a t) s = s
reads-on mode at text ts mid rest us end left (past_gap a t gap more vs last over e g r) s =
    past_gap a t gap more (vs ++ us) end left e g (reads-on mode (place_after a gap) more vs last over us end left r s)
reads-on mode at text ts mid rest us end left (past_token a t more tok vs last over e p i r) s =
    past_token a t more tok (vs ++ us) end left e p i (reads-on mode (place_after a tok.text) more vs last over us end left r s)
