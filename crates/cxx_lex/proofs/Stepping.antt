-- The steps of a lexer, and of a call that takes all of them.
use Rattle.std.proofs.Common.{◌≡◌, ℕ, ◌≤◌, ◌<◌, ◌+◌, ◌^◌, List, [], ◌∷◌, ◌++◌, take, drop, length, length-append, append-nil, refl, sym, ap, ◌∙◌, subst, arith}
use Rattle.std.proofs.lemmas.List.{take-append-drop}
use Rattle.agxx_base.specs.declared.fault.Refusal.{Refusal}
use Rattle.agxx_base.specs.declared.kind.Mode.{Mode}
use Rattle.agxx_base.specs.declared.place.Place.{Place}
use Rattle.agxx_base.specs.declared.rule.Rule.{Rule}
use Rattle.cxx_lex.specs.declared.front.Front.{Front}
use Rattle.cxx_lex.specs.declared.front.Front.TheVariants as front
use Rattle.cxx_lex.specs.declared.tok.Tok.{Tok}
use Rattle.cxx_lex.specs.declared.tok.TokKind.{TokKind}
use Rattle.cxx_lex.specs.Left.{Left, HasRoom}
use Rattle.cxx_lex.specs.Place.{start_of, place_after}
use Rattle.cxx_lex.specs.Scan.{front_of}
use Rattle.cxx_lex.specs.Steps.{IsNext, EndsAt, RefusesAt}
use Rattle.cxx_lex.specs.TokList.{tokens_of}
use Rattle.cxx_lex.specs.Tokens.{Token, token_of, IsGap, IsTokenAt, IsRefused, Reads, arrives, past_gap, past_token, HasTokens, RefusedAt}
use Rattle.cxx_lex.proofs.Fronts.{IsFront, front-is, some-token}
use Rattle.cxx_lex.proofs.Readings.{reads-place, reads-on}

-- what a lexer knows behind blanks and comments
pub record IsBehindGaps (old now : Left) (at : Place) (left : List ℕ) : Type 0 where
  pub same : now ≡ old
  pub room : HasRoom now.at now.text
  pub reads : Reads old.mode old.at old.text [] at left
  pub line : at.line + length left < 2 ^ 32
  pub column : at.column + length left < 2 ^ 32

pub begins : (old now : Left) → now ≡ old → HasRoom now.at now.text → IsBehindGaps old now now.at now.text
begins old now e r = record {
  same = e;
  room = r;
  reads = subst (λ z. Reads z.mode z.at z.text [] now.at now.text) e (arrives now.at now.text);
  line = r.0;
  column = r.1;
}

empty : (xs : List ℕ) → length xs ≡ 0 → xs ≡ []
empty [] e = refl
empty (x ∷ xs) e = absurd (omega arith)

pub ends : (old now : Left) (at : Place) (left : List ℕ) → IsBehindGaps old now at left → length left ≡ 0 → EndsAt old at × (now ≡ old)
ends old now at left b e = (subst (Reads old.mode old.at old.text [] at) (empty left e) b.reads, b.same)

-- what is found stands there
stands-there : (mode : Mode) (left : List ℕ) (f : Front) → (length left ≡ 0 → ⊥) → f ≡ front_of mode left → IsFront mode left f
stands-there mode [] f n e = absurd (n refl)
stands-there mode (b ∷ bs) f n e = subst (IsFront mode (b ∷ bs)) (sym e) (front-is mode b bs)

parts : (left front rest : List ℕ) (n : ℕ) → front ≡ take n left → rest ≡ drop n left → left ≡ front ++ rest
parts left front rest n f r = sym (take-append-drop n left) ∙ ap (λ z. z ++ drop n left) (sym f) ∙ ap (λ z. front ++ z) (sym r)

pub gap-passed : (old now : Left) (at at' : Place) (left gap rest : List ℕ) (n : ℕ) → IsBehindGaps old now at left → (length left ≡ 0 → ⊥) → front.Gap n ≡ front_of now.mode left
    → gap ≡ take n left → rest ≡ drop n left → at' ≡ place_after at gap → at'.line ≤ at.line + length gap → at'.column ≤ at.column + length gap → IsBehindGaps old now at' rest
gap-passed old now at at' left gap rest n b s e g r p line column =
    let i : IsGap gap rest = subst (λ z. IsGap gap z) (sym r) (subst (λ z. IsGap z (drop n left)) (sym g) (stands-there now.mode left (front.Gap n) s e).0) in
    let whole : left ≡ gap ++ rest = parts left gap rest n g r in
    let step : Reads old.mode at left [] at' rest = past_gap at left gap rest [] at' rest whole i (subst (λ z. Reads old.mode z rest [] at' rest) p (arrives at' rest)) in
    record {
      same = b.same;
      room = b.room;
      reads = reads-on old.mode old.at old.text [] at left [] at' rest b.reads step;
      line = omega (arith, b.line, line, ap length whole, length-append gap rest);
      column = omega (arith, b.column, column, ap length whole, length-append gap rest);
    }

pub token-passed : (old now : Left) (at at' : Place) (left text rest : List ℕ) (token : TokKind) (n : ℕ) → IsBehindGaps old now at left → (length left ≡ 0 → ⊥) → front.Token token n ≡ front_of now.mode left
    → text ≡ take n left → rest ≡ drop n left → at' ≡ place_after at text → IsNext old (record { kind = token; text = text; at = at }) (record { mode = now.mode; at = at'; text = rest })
token-passed old now at at' left text rest token n b s e t r p =
    let i : IsTokenAt now.mode token text rest = subst (λ z. IsTokenAt now.mode token text z) (sym r) (subst (λ z. IsTokenAt now.mode token z (drop n left)) (sym t) (stands-there now.mode left (front.Token token n) s e).0) in
    record {
      gaps = subst (Reads old.mode old.at old.text [] at) (parts left text rest n t r) b.reads;
      found = subst (λ z. IsTokenAt z token text rest) (ap (λ z. z.mode) b.same) i;
      at = p;
      mode = ap (λ z. z.mode) b.same;
    }

pub refusal-found : (old now : Left) (at place : Place) (left passed : List ℕ) (rule : Rule) (n : ℕ) → IsBehindGaps old now at left → (length left ≡ 0 → ⊥) → front.Refused rule n ≡ front_of now.mode left
    → passed ≡ take n left → place ≡ place_after at passed → RefusesAt old (record { rule = rule; place = place }) × (now ≡ old)
refusal-found old now at place left passed rule n b s e t p =
    let i : IsRefused now.mode left rule passed = subst (IsRefused now.mode left rule) (sym t) (stands-there now.mode left (front.Refused rule n) s e) in
    ((at, left, passed, b.reads, subst (λ z. IsRefused z left rule passed) (ap (λ z. z.mode) b.same) i, p), b.same)

-- ---- all steps

-- what a lexer has read so far
pub record IsReading (mode : Mode) (from : Place) (text : List ℕ) (ts : List Token) (left : Left) : Type 0 where
  pub mode_is : left.mode ≡ mode
  pub reads : Reads mode from text ts left.at left.text

pub reading-begins : (mode : Mode) (file : ℕ) (text : List ℕ) (items : List Tok) (left : Left) → items ≡ [] → left ≡ record { mode = mode; at = start_of file; text = text } → IsReading mode (start_of file) text (tokens_of items) left
reading-begins mode file text items left i e =
    subst (IsReading mode (start_of file) text (tokens_of items)) (sym e) (subst (λ z. IsReading mode (start_of file) text (tokens_of z) (record { mode = mode; at = start_of file; text = text })) (sym i)
    (record { mode_is = refl; reads = arrives (start_of file) text }))

tokens-push : (items more : List Tok) (tok : Tok) → more ≡ items ++ tok ∷ [] → tokens_of more ≡ tokens_of items ++ token_of tok ∷ []
tokens-push items more tok e = ap tokens_of e ∙ go items
  where
    go : (items : List Tok) → tokens_of (items ++ tok ∷ []) ≡ tokens_of items ++ token_of tok ∷ []
    go [] = refl
    go (x ∷ xs) = ap (λ z. token_of x ∷ z) (go xs)

pub reading-goes-on : (mode : Mode) (from : Place) (text : List ℕ) (items more : List Tok) (tok : Tok) (left next : Left) → IsReading mode from text (tokens_of items) left → IsNext left (token_of tok) next
    → more ≡ items ++ tok ∷ [] → IsReading mode from text (tokens_of more) next
reading-goes-on mode from text items more tok left next r n e = record {
  mode_is = n.mode ∙ r.mode_is;
  reads = subst (λ z. Reads mode from text z next.at next.text) (sym (tokens-push items more tok e))
      (reads-on mode from text (tokens_of items) left.at left.text (token_of tok ∷ []) next.at next.text r.reads
      (subst (λ z. Reads z left.at left.text (token_of tok ∷ []) next.at next.text) r.mode_is
      (reads-on left.mode left.at left.text [] tok.at (tok.text.now ++ next.text) (token_of tok ∷ []) next.at next.text n.gaps
      (past_token tok.at (tok.text.now ++ next.text) next.text (token_of tok) [] next.at next.text refl refl n.found
      (subst (λ z. Reads left.mode z next.text [] next.at next.text) n.at (arrives next.at next.text))))));
}

pub token-shortens : (left next : Left) (t : Token) → IsNext left t next → length next.text < length left.text
token-shortens left next t n =
    let p = reads-place left.mode left.at left.text [] t.at (t.text ++ next.text) n.gaps in
    let s = some-token left.mode t.kind t.text next.text n.found in
    omega (arith, ap length p.1, length-append p.0 (t.text ++ next.text), length-append t.text next.text, ap length s.2)

pub reading-ends : (mode : Mode) (file : ℕ) (text : List ℕ) (items : List Tok) (left : Left) (end : Place) → IsReading mode (start_of file) text (tokens_of items) left → EndsAt left end → HasTokens mode file text (tokens_of items) end
reading-ends mode file text items left end r e =
    subst (λ z. Reads mode (start_of file) text z end []) (append-nil (tokens_of items))
    (reads-on mode (start_of file) text (tokens_of items) left.at left.text [] end [] r.reads (subst (λ z. Reads z left.at left.text [] end []) r.mode_is e))

pub end-behind : (mode : Mode) (file : ℕ) (text : List ℕ) (ts : List Token) (end : Place) → HasTokens mode file text ts end → end ≡ place_after (start_of file) text
end-behind mode file text ts end h =
    let p = reads-place mode (start_of file) text ts end [] h in
    p.2 ∙ ap (place_after (start_of file)) (sym (append-nil p.0) ∙ sym p.1)

pub reading-refused : (mode : Mode) (file : ℕ) (text : List ℕ) (items : List Tok) (left : Left) (refusal : Refusal) → IsReading mode (start_of file) text (tokens_of items) left → RefusesAt left refusal → RefusedAt mode file text refusal
reading-refused mode file text items left refusal r (at, rest, passed, g, i, p) = (
  tokens_of items,
  at,
  rest,
  passed,
  subst (λ z. Reads mode (start_of file) text z at rest) (append-nil (tokens_of items))
      (reads-on mode (start_of file) text (tokens_of items) left.at left.text [] at rest r.reads (subst (λ z. Reads z left.at left.text [] at rest) r.mode_is g)),
  subst (λ z. IsRefused z rest refusal.rule passed) r.mode_is i,
  p,
)
