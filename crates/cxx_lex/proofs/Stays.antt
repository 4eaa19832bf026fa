-- A lexer steps in one way.
use Rattle.std.proofs.Common.{◌≡◌, ℕ, List, [], ◌∷◌, ◌++◌, take, drop, length, refl, sym, ap, ◌∙◌, subst}
use Rattle.std.proofs.Math.Seq.{take-append_seam, drop-append_seam}
use Rattle.agxx_base.specs.declared.fault.Refusal.{Refusal}
use Rattle.agxx_base.specs.declared.kind.Mode.{Mode}
use Rattle.agxx_base.specs.declared.place.Place.{Place}
use Rattle.agxx_base.specs.declared.rule.Rule.{Rule}
use Rattle.cxx_lex.specs.declared.front.Front.TheVariants as front
use Rattle.cxx_lex.specs.declared.lexer.LexStep.TheVariants as step
use Rattle.cxx_lex.specs.Left.{Left}
use Rattle.cxx_lex.specs.Place.{place_after}
use Rattle.cxx_lex.specs.Scan.{front_of}
use Rattle.cxx_lex.specs.Tokens.{Token, token_of, IsGap, IsTokenAt, IsRefused, Reads, arrives, past_gap, past_token}
use Rattle.cxx_lex.specs.Steps.{IsNext, EndsAt, RefusesAt}
use Rattle.cxx_lex.specs.Laws.{StepsInOneWay}
use Rattle.cxx_lex.proofs.Fronts.{some-gap, gap-front, token-front, some-token, refused-front}

-- no blank and no comment begins a text
abbrev NoGap : List ℕ → Type 0
NoGap text = (gap rest : List ℕ) → text ≡ gap ++ rest → IsGap gap rest → ⊥

-- fronts of equal length of one text, and what is behind them
same-front : (one other rest more : List ℕ) → one ++ rest ≡ other ++ more → length one ≡ length other → one ≡ other
same-front one other rest more e n = sym (take-append_seam one rest) ∙ ap (take (length one)) e ∙ ap (λ k. take k (other ++ more)) n ∙ take-append_seam other more

same-behind : (one other rest more : List ℕ) → one ++ rest ≡ other ++ more → length one ≡ length other → rest ≡ more
same-behind one other rest more e n = sym (drop-append_seam one rest) ∙ ap (drop (length one)) e ∙ ap (λ k. drop k (other ++ more)) n ∙ drop-append_seam other more

gap-lengths : (mode : Mode) (one other rest more : List ℕ) → one ++ rest ≡ other ++ more → IsGap one rest → IsGap other more → length one ≡ length other
gap-lengths mode one other rest more e g h =
    let s : front.Gap (length one) ≡ front.Gap (length other) = sym (gap-front mode one rest g) ∙ ap (front_of mode) e ∙ gap-front mode other more h in cc

-- blanks and comments lead to one place, from where none goes on
gaps-meet : (mode : Mode) (at : Place) (text : List ℕ) (ts us : List Token) (p q : Place) (rest more : List ℕ) → ts ≡ [] → us ≡ [] → Reads mode at text ts p rest → Reads mode at text us q more → NoGap rest → NoGap more → (p ≡ q) × (rest ≡ more)
gaps-meet mode at text ts us p q rest more et eu (arrives a t) (arrives b u) nr nm = (refl, refl)
gaps-meet mode at text ts us p q rest more et eu (arrives a t) (past_gap b u gap r vs l m e g rd) nr nm = absurd (nr gap r e g)
gaps-meet mode at text ts us p q rest more et eu (arrives a t) (past_token b u r tok vs l m e pl i rd) nr nm = cc
gaps-meet mode at text ts us p q rest more et eu (past_gap a t gap r vs l m e g rd) (arrives b u) nr nm = absurd (nm gap r e g)
gaps-meet mode at text ts us p q rest more et eu (past_gap a t gap r vs l m e g rd) (past_gap b u gap' r' vs' l' m' e' g' rd') nr nm =
    let whole : gap ++ r ≡ gap' ++ r' = sym e ∙ e' in
    let n : length gap ≡ length gap' = gap-lengths mode gap gap' r r' whole g g' in
    let s : gap ≡ gap' = same-front gap gap' r r' whole n in
    let k : r ≡ r' = same-behind gap gap' r r' whole n in
    gaps-meet mode (place_after a gap) r vs vs' l l' m m' et eu rd (subst (λ z. Reads mode (place_after a z) r vs' l' m') (sym s) (subst (λ z. Reads mode (place_after a gap') z vs' l' m') (sym k) rd')) nr nm
gaps-meet mode at text ts us p q rest more et eu (past_gap a t gap r vs l m e g rd) (past_token b u r' tok vs' l' m' e' pl i rd') nr nm = cc
gaps-meet mode at text ts us p q rest more et eu (past_token a t r tok vs l m e pl i rd) other nr nm = cc

end-no-gap : NoGap []
end-no-gap gap rest e g = let s = some-gap gap rest g in let z : [] ≡ s.0 ∷ (s.1 ++ rest) = e ∙ ap (λ x. x ++ rest) s.2 in cc

token-no-gap : (mode : Mode) (t : Token) (behind : List ℕ) → IsTokenAt mode t.kind t.text behind → NoGap (t.text ++ behind)
token-no-gap mode t behind i gap rest e g =
    let s : front.Token t.kind (length t.text) ≡ front.Gap (length gap) = sym (token-front mode t.kind t.text behind i) ∙ ap (front_of mode) e ∙ gap-front mode gap rest g in cc

refused-no-gap : (mode : Mode) (text : List ℕ) (rule : Rule) (passed : List ℕ) → IsRefused mode text rule passed → NoGap text
refused-no-gap mode text rule passed i gap rest e g =
    let f = refused-front mode text rule passed i in
    let s : front.Refused rule f.n ≡ front.Gap (length gap) = sym f.found ∙ ap (front_of mode) e ∙ gap-front mode gap rest g in cc

no-text : (mode : Mode) (t : Token) (behind : List ℕ) → IsTokenAt mode t.kind t.text behind → t.text ++ behind ≡ [] → ⊥
no-text mode t behind i e = let s = some-token mode t.kind t.text behind i in let z : s.0 ∷ (s.1 ++ behind) ≡ [] = ap (λ x. x ++ behind) (sym s.2) ∙ e in cc

no-refused-text : (mode : Mode) (text : List ℕ) (rule : Rule) (passed : List ℕ) → IsRefused mode text rule passed → text ≡ [] → ⊥
no-refused-text mode text rule passed i e = let f = refused-front mode text rule passed i in let z : f.first ∷ f.more ≡ [] = sym f.some ∙ e in cc

no-token-refused : (mode : Mode) (t : Token) (behind text : List ℕ) (rule : Rule) (passed : List ℕ) → IsTokenAt mode t.kind t.text behind → IsRefused mode text rule passed → t.text ++ behind ≡ text → ⊥
no-token-refused mode t behind text rule passed i j e =
    let f = refused-front mode text rule passed j in
    let s : front.Token t.kind (length t.text) ≡ front.Refused rule f.n = sym (token-front mode t.kind t.text behind i) ∙ ap (front_of mode) e ∙ f.found in cc

same-token : (t u : Token) → t.kind ≡ u.kind → t.text ≡ u.text → t.at ≡ u.at → t ≡ u
same-token t u a b c = ap (λ q. record { kind = q; text = t.text; at = t.at }) a ∙ ap (λ q. record { kind = u.kind; text = q; at = t.at }) b ∙ ap (λ q. record { kind = u.kind; text = u.text; at = q }) c

same-left : (x y : Left) → x.mode ≡ y.mode → x.at ≡ y.at → x.text ≡ y.text → x ≡ y
same-left x y a b c = ap (λ q. record { mode = q; at = x.at; text = x.text }) a ∙ ap (λ q. record { mode = y.mode; at = q; text = x.text }) b ∙ ap (λ q. record { mode = y.mode; at = y.at; text = q }) c

same-refusal : (r q : Refusal) → r.rule ≡ q.rule → r.place ≡ q.place → r ≡ q
same-refusal r q a b = ap (λ z. record { rule = z; place = r.place }) a ∙ ap (λ z. record { rule = q.rule; place = z }) b

one-token : (old : Left) (t u : Token) (new after : Left) → IsNext old t new → IsNext old u after → (t ≡ u) × (new ≡ after)
one-token old t u new after n m =
    let g = gaps-meet old.mode old.at old.text [] [] t.at u.at (t.text ++ new.text) (u.text ++ after.text) refl refl n.gaps m.gaps (token-no-gap old.mode t new.text n.found) (token-no-gap old.mode u after.text m.found) in
    let s : front.Token t.kind (length t.text) ≡ front.Token u.kind (length u.text) = sym (token-front old.mode t.kind t.text new.text n.found) ∙ ap (front_of old.mode) g.1 ∙ token-front old.mode u.kind u.text after.text m.found in
    let k : t.kind ≡ u.kind = cc in
    let l : length t.text ≡ length u.text = cc in
    let x : t.text ≡ u.text = same-front t.text u.text new.text after.text g.1 l in
    let y : new.text ≡ after.text = same-behind t.text u.text new.text after.text g.1 l in
    (same-token t u k x g.0, same-left new after (n.mode ∙ sym m.mode) (n.at ∙ ap (λ z. place_after z t.text) g.0 ∙ ap (place_after u.at) x ∙ sym m.at) y)

one-refusal : (old : Left) (r q : Refusal) → RefusesAt old r → RefusesAt old q → r ≡ q
one-refusal old r q a b =
    let g = gaps-meet old.mode old.at old.text [] [] a.0 b.0 a.1 b.1 refl refl a.3 b.3 (refused-no-gap old.mode a.1 r.rule a.2 a.4) (refused-no-gap old.mode b.1 q.rule b.2 b.4) in
    let f = refused-front old.mode a.1 r.rule a.2 a.4 in
    let h = refused-front old.mode b.1 q.rule b.2 b.4 in
    let s : front.Refused r.rule f.n ≡ front.Refused q.rule h.n = sym f.found ∙ ap (front_of old.mode) g.1 ∙ h.found in
    let k : r.rule ≡ q.rule = cc in
    let n : f.n ≡ h.n = cc in
    let x : a.2 ≡ b.2 = f.front_is ∙ ap (take f.n) g.1 ∙ ap (λ z. take z b.1) n ∙ sym h.front_is in
    same-refusal r q k (a.5 ∙ ap (λ z. place_after z a.2) g.0 ∙ ap (place_after b.0) x ∙ sym b.5)

one-end : (old : Left) (p q : Place) → EndsAt old p → EndsAt old q → p ≡ q
one-end old p q a b = (gaps-meet old.mode old.at old.text [] [] p q [] [] refl refl a b end-no-gap end-no-gap).0

token-or-end : (old : Left) (t : Token) (new : Left) (p : Place) → IsNext old t new → EndsAt old p → ⊥
token-or-end old t new p n b =
    no-text old.mode t new.text n.found (gaps-meet old.mode old.at old.text [] [] t.at p (t.text ++ new.text) [] refl refl n.gaps b (token-no-gap old.mode t new.text n.found) end-no-gap).1

token-or-refused : (old : Left) (t : Token) (new : Left) (r : Refusal) → IsNext old t new → RefusesAt old r → ⊥
token-or-refused old t new r n a =
    no-token-refused old.mode t new.text a.1 r.rule a.2 n.found a.4
    (gaps-meet old.mode old.at old.text [] [] t.at a.0 (t.text ++ new.text) a.1 refl refl n.gaps a.3 (token-no-gap old.mode t new.text n.found) (refused-no-gap old.mode a.1 r.rule a.2 a.4)).1

end-or-refused : (old : Left) (p : Place) (r : Refusal) → EndsAt old p → RefusesAt old r → ⊥
end-or-refused old p r b a =
    no-refused-text old.mode a.1 r.rule a.2 a.4 (gaps-meet old.mode old.at old.text [] [] a.0 p a.1 [] refl refl a.3 b (refused-no-gap old.mode a.1 r.rule a.2 a.4) end-no-gap).1

pub steps_one_way : StepsInOneWay
steps_one_way old (step.Token t) (step.Token u) new after n m = one-token old (token_of t) (token_of u) new after n m
steps_one_way old (step.Token t) (step.End p) new after n m = absurd (token-or-end old (token_of t) new p n m.0)
steps_one_way old (step.Token t) (step.Refused r) new after n m = absurd (token-or-refused old (token_of t) new r n m.0)
steps_one_way old (step.End p) (step.Token u) new after n m = absurd (token-or-end old (token_of u) after p m n.0)
steps_one_way old (step.End p) (step.End q) new after n m = (one-end old p q n.0 m.0, n.1 ∙ sym m.1)
steps_one_way old (step.End p) (step.Refused r) new after n m = absurd (end-or-refused old p r n.0 m.0)
steps_one_way old (step.Refused r) (step.Token u) new after n m = absurd (token-or-refused old (token_of u) after r m n.0)
steps_one_way old (step.Refused r) (step.End q) new after n m = absurd (end-or-refused old q r m.0 n.0)
steps_one_way old (step.Refused r) (step.Refused q) new after n m = (one-refusal old r q n.0 m.0, n.1 ∙ sym m.1)
