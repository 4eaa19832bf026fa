-- What is found at the front of a text is what stands there.
use Rattle.std.proofs.Common.{◌≡◌, ◌≢◌, ℕ, zero, suc, ◌≤◌, Bool, true, false, cond, List, [], ◌∷◌, ◌++◌, take, drop, length, length-append, append_assoc, Option, Some, None, Result, Ok, Err, refl, sym, ap, ◌∙◌, subst, eq-eqb, arith}
use Rattle.std.specs.Prelude.{◌==◌}
use Rattle.std.specs.List.{list_all}
use Rattle.std.proofs.lemmas.Bool.{eqb-true, false≢true}
use Rattle.std.proofs.lemmas.List.{take-append-drop, length-take-le}
use Rattle.std.proofs.Math.Seq.{take-append_seam, drop-append_seam}
use Rattle.agxx_base.specs.declared.kind.Mode.{Mode}
use Rattle.agxx_base.specs.declared.rule.Rule.{Rule}
use Rattle.agxx_base.specs.declared.rule.Rule.TheVariants.{L1, L2}
use Rattle.cxx_lex.specs.declared.front.Front.{Front}
use Rattle.cxx_lex.specs.declared.front.Front.TheVariants as front
use Rattle.cxx_lex.specs.declared.strings.StringFault.{StringFault}
use Rattle.cxx_lex.specs.declared.strings.StringFault.TheVariants.{Unclosed, BadByte}
use Rattle.cxx_lex.specs.declared.tok.Lexeme.{Lexeme}
use Rattle.cxx_lex.specs.declared.tok.TokKind.{TokKind}
use Rattle.cxx_lex.specs.declared.tok.TokKind.TheVariants as kind
use Rattle.cxx_lex.specs.Bytes.{is_blank, is_in_line, begins_with, begins_comment}
use Rattle.cxx_lex.specs.Strings.{is_character, spelling, string_fault}
use Rattle.cxx_lex.specs.Lexemes.{IsLexeme, IsLongest}
use Rattle.cxx_lex.specs.Tokens.{IsGap, blank, line, block, clashes, IsTokenAt, IsRefused, comment, member, behind_number, open_string, bad_string, unknown}
use Rattle.cxx_lex.specs.Runs.{run, close_len}
use Rattle.cxx_lex.specs.StringScan.{body_len, string_lexeme}
use Rattle.cxx_lex.specs.Scan.{lexeme, block_front, comment_front, string_front, nothing_front, token_front, verdict_front, lexeme_front, comment_or, front_of}
use Rattle.cxx_lex.proofs.Runs.{run-all, run-stops, run-front}
use Rattle.cxx_lex.proofs.Comments.{close-front, close-open, close-none, close-is, ends-line, line-stops, comment-none, comment-absent}
use Rattle.cxx_lex.proofs.StringCut.{body-is, body-spelling, body-fails, string-ends}
use Rattle.cxx_lex.proofs.Members.{no-member, member-blank}
use Rattle.cxx_lex.proofs.Cut.{IsFound, lexeme-found, longest-found, none-found}

-- ---- what is found stands there

abbrev IsMore : ℕ → Type 0
IsMore n = (m : ℕ) × (n ≡ suc m)

abbrev pub IsFront : Mode → List ℕ → Front → Type 0
IsFront mode text (front.Gap n) = IsGap (take n text) (drop n text) × IsMore n
IsFront mode text (front.Token token n) = IsTokenAt mode token (take n text) (drop n text) × IsMore n
IsFront mode text (front.Refused rule n) = IsRefused mode text rule (take n text)

line-found : (mode : Mode) (text : List ℕ) → IsFront mode (47 ∷ 47 ∷ text) (front.Gap (suc (suc (run is_in_line text))))
line-found mode text = (line (take (run is_in_line text) text) refl (run-all is_in_line text) (ends-line (drop (run is_in_line text) text) (run-stops is_in_line text)), (suc (run is_in_line text), refl))

block-found : (mode : Mode) (text : List ℕ) (o : Option ℕ) → close_len text ≡ o → IsFront mode (47 ∷ 42 ∷ text) (block_front o)
block-found mode text None e = comment text refl (close-none text e) refl refl
block-found mode text (Some n) e =
    let c = close-is text n e in
    let whole : text ≡ (c.body ++ 42 ∷ 47 ∷ []) ++ c.rest = c.parts ∙ sym (append_assoc c.body (42 ∷ 47 ∷ []) c.rest) in
    let m : n ≡ length (c.body ++ 42 ∷ 47 ∷ []) = omega (arith, c.len, length-append c.body (42 ∷ 47 ∷ [])) in
    let t : take n text ≡ c.body ++ 42 ∷ 47 ∷ [] = ap (λ k. take k text) m ∙ ap (take (length (c.body ++ 42 ∷ 47 ∷ []))) whole ∙ take-append_seam (c.body ++ 42 ∷ 47 ∷ []) c.rest in
    (block c.body (ap (λ z. 47 ∷ 42 ∷ z) t) c.first, (suc n, refl))

comment-found : (mode : Mode) (text : List ℕ) (f : Front) → comment_front text ≡ Some f → IsFront mode text f
comment-found mode [] f e = cc
comment-found mode (b ∷ []) f e = cc
comment-found mode (b ∷ c ∷ cs) f e = go (b == 47) refl (c == 47) refl (c == 42) refl e
  where
    go : (x : Bool) → (b == 47) ≡ x → (y : Bool) → (c == 47) ≡ y → (z : Bool) → (c == 42) ≡ z
        → cond x (cond y (Some (front.Gap (suc (suc (run is_in_line cs))))) (cond z (Some (block_front (close_len cs))) None)) None ≡ Some f → IsFront mode (b ∷ c ∷ cs) f
    go true p true q z r g =
        let s : front.Gap (suc (suc (run is_in_line cs))) ≡ f = cc in
        subst (IsFront mode (b ∷ c ∷ cs)) s (subst (λ w. IsFront mode (w ∷ c ∷ cs) (front.Gap (suc (suc (run is_in_line cs))))) (sym (eqb-true b 47 p))
        (subst (λ w. IsFront mode (47 ∷ w ∷ cs) (front.Gap (suc (suc (run is_in_line cs))))) (sym (eqb-true c 47 q)) (line-found mode cs)))
    go true p false q true r g =
        let s : block_front (close_len cs) ≡ f = cc in
        subst (IsFront mode (b ∷ c ∷ cs)) s (subst (λ w. IsFront mode (w ∷ c ∷ cs) (block_front (close_len cs))) (sym (eqb-true b 47 p))
        (subst (λ w. IsFront mode (47 ∷ w ∷ cs) (block_front (close_len cs))) (sym (eqb-true c 42 r)) (block-found mode cs (close_len cs) refl)))
    go true p false q false r g = cc
    go false p y q z r g = cc

some-none : (l : Lexeme) → Some l ≡ None → ⊥
some-none l e = cc

-- where no member stands behind a quote, the string has a fault
string-refused : (mode : Mode) (bs : List ℕ) → string_lexeme bs ≡ None → IsFront mode (34 ∷ bs) (string_front (body_len bs) (string_fault (drop (body_len bs) bs)))
unfolding string_lexeme
string-refused mode bs e = go (string_fault (drop (body_len bs) bs)) refl
  where
    whole : 34 ∷ bs ≡ 34 ∷ (spelling (body-is bs).value ++ drop (body_len bs) bs)
    whole = ap (λ z. 34 ∷ z) (sym (take-append-drop (body_len bs) bs) ∙ ap (λ z. z ++ drop (body_len bs) bs) (sym (body-is bs).spells))

    closed : string_fault (drop (body_len bs) bs) ≡ None → ⊥
    closed f =
        let y : cond (begins_with 34 (drop (body_len bs) bs)) (Some (record { kind = Ok kind.Text; len = suc (suc (body_len bs)) })) None ≡ Some (record { kind = Ok kind.Text; len = suc (suc (body_len bs)) }) = rw (string-ends bs f) refl in
        some-none (record { kind = Ok kind.Text; len = suc (suc (body_len bs)) }) (sym y ∙ e)

    go : (o : Option StringFault) → string_fault (drop (body_len bs) bs) ≡ o → IsFront mode (34 ∷ bs) (string_front (body_len bs) o)
    go None f = absurd (closed f)
    go (Some Unclosed) f = open_string (body-is bs).value (drop (body_len bs) bs) whole (body-is bs).characters f refl refl
    go (Some BadByte) f = bad_string (body-is bs).value (drop (body_len bs) bs) whole (body-is bs).characters f refl (ap (λ z. 34 ∷ z) (sym (body-is bs).spells))

nothing-found : (mode : Mode) (b : ℕ) (bs : List ℕ) → is_blank b ≡ false → begins_comment (b ∷ bs) ≡ false → lexeme mode (b ∷ bs) ≡ None → IsFront mode (b ∷ bs) (nothing_front (b ∷ bs))
nothing-found mode b bs n c e = go (b == 34) refl
  where
    go : (x : Bool) → (b == 34) ≡ x → IsFront mode (b ∷ bs) (cond x (string_front (body_len bs) (string_fault (drop (body_len bs) bs))) (front.Refused L1 0))
    go true p =
        let s = eqb-true b 34 p in
        subst (λ z. IsFront mode (z ∷ bs) (string_front (body_len bs) (string_fault (drop (body_len bs) bs)))) (sym s) (string-refused mode bs (sym (ap (λ z. lexeme mode (z ∷ bs)) s) ∙ e))
    go false p = unknown b bs refl (λ s. absurd (false≢true (sym p ∙ eq-eqb b 34 s))) n c (subst (IsFound mode (b ∷ bs)) e (lexeme-found mode (b ∷ bs))) refl refl

member-found : (mode : Mode) (text : List ℕ) → begins_comment text ≡ false → (n : ℕ) (v : Result TokKind Rule) → IsFound mode text (Some (record { kind = v; len = n })) → IsFront mode text (verdict_front text n v)
member-found mode text c n v f = go v refl
  where
    longest : IsLongest mode v (take n text) (drop n text)
    longest = record {
      no_comment = ap begins_comment (take-append-drop n text) ∙ c;
      lexeme = f.member;
      longest = λ other front behind i e. subst (λ k. length front ≤ k) (sym (length-take-le n text f.within)) (f.longest other front behind i (sym (take-append-drop n text) ∙ e));
    }

    more : (k : ℕ) → n ≡ k → IsMore n
    more zero e = absurd (no-member mode v (subst (λ k. IsLexeme mode v (take k text)) e f.member))
    more (suc m) e = (m, e)

    token : (token : TokKind) → v ≡ Ok token → (x : Bool) → clashes token (drop n text) ≡ x → IsFront mode text (token_front token n x)
    token t e true h = behind_number t (drop n text) (sym (take-append-drop n text)) (subst (λ z. IsLongest mode z (take n text) (drop n text)) e longest) h refl
    token t e false h = (record { longest = subst (λ z. IsLongest mode z (take n text) (drop n text)) e longest; apart = h }, more n refl)

    go : (u : Result TokKind Rule) → v ≡ u → IsFront mode text (verdict_front text n u)
    go (Err rule) e = member (take n text) (drop n text) (sym (take-append-drop n text)) (subst (λ z. IsLongest mode z (take n text) (drop n text)) e longest) refl
    go (Ok t) e = token t e (clashes t (drop n text)) refl

pub front-is : (mode : Mode) (b : ℕ) (bs : List ℕ) → IsFront mode (b ∷ bs) (front_of mode (b ∷ bs))
unfolding front_of
front-is mode b bs = go (is_blank b) refl (comment_front (b ∷ bs)) refl (lexeme mode (b ∷ bs)) refl
  where
    go : (x : Bool) → is_blank b ≡ x → (f : Option Front) → comment_front (b ∷ bs) ≡ f → (o : Option Lexeme) → lexeme mode (b ∷ bs) ≡ o → IsFront mode (b ∷ bs) (cond x (front.Gap 1) (comment_or mode (b ∷ bs) f))
    go true p f q o r = (blank b refl p, (0, refl))
    go false p (Some f) q o r = comment-found mode (b ∷ bs) f q
    go false p None q None r = rw r (nothing-found mode b bs p (comment-absent (b ∷ bs) q) r)
    go false p None q (Some l) r = rw r (member-found mode (b ∷ bs) (comment-absent (b ∷ bs) q) l.len l.kind (subst (IsFound mode (b ∷ bs)) r (lexeme-found mode (b ∷ bs))))

-- ---- what stands there is found

no-gap : (rest : List ℕ) → IsGap [] rest → ⊥
no-gap rest (blank b e p) = cc
no-gap rest (line body e p q) = cc
no-gap rest (block body e p) = cc

pub some-gap : (gap rest : List ℕ) → IsGap gap rest → (b : ℕ) × (bs : List ℕ) × (gap ≡ b ∷ bs)
some-gap [] rest g = absurd (no-gap rest g)
some-gap (b ∷ bs) rest g = (b, bs, refl)

pub gap-front : (mode : Mode) (gap rest : List ℕ) → IsGap gap rest → front_of mode (gap ++ rest) ≡ front.Gap (length gap)
unfolding front_of
gap-front mode gap rest (blank b e p) = subst (λ z. front_of mode (z ++ rest) ≡ front.Gap (length z)) (sym e) (rw p refl)
gap-front mode gap rest (line body e p q) =
    subst (λ z. front_of mode (z ++ rest) ≡ front.Gap (length z)) (sym e) (ap (λ n. front.Gap (suc (suc n))) (run-front is_in_line body rest p (line-stops rest q)))
gap-front mode gap rest (block body e p) =
    let c : close_len ((body ++ 42 ∷ 47 ∷ []) ++ rest) ≡ Some (suc (suc (length body))) = ap close_len (append_assoc body (42 ∷ 47 ∷ []) rest) ∙ close-front body rest p in
    let n : suc (suc (suc (suc (length body)))) ≡ length (47 ∷ 42 ∷ (body ++ 42 ∷ 47 ∷ [])) = omega (arith, length-append body (42 ∷ 47 ∷ [])) in
    subst (λ z. front_of mode (z ++ rest) ≡ front.Gap (length z)) (sym e) (ap block_front c ∙ ap front.Gap n)

longest-front : (mode : Mode) (v : Result TokKind Rule) (text rest : List ℕ) → IsLongest mode v text rest → front_of mode (text ++ rest) ≡ verdict_front (text ++ rest) (length text) v
unfolding front_of
longest-front mode v [] rest i = absurd (no-member mode v i.lexeme)
longest-front mode v (b ∷ bs) rest i =
    rw (member-blank mode v b bs i.lexeme, comment-none (b ∷ (bs ++ rest)) i.no_comment) (ap (lexeme_front (b ∷ (bs ++ rest))) (longest-found mode v (b ∷ bs) rest i))

pub token-front : (mode : Mode) (token : TokKind) (text rest : List ℕ) → IsTokenAt mode token text rest → front_of mode (text ++ rest) ≡ front.Token token (length text)
token-front mode token text rest t =
    longest-front mode (Ok token) text rest t.longest ∙ ap (token_front token (length text)) (ap (clashes token) (drop-append_seam text rest) ∙ t.apart)

pub some-token : (mode : Mode) (token : TokKind) (text rest : List ℕ) → IsTokenAt mode token text rest → (b : ℕ) × (bs : List ℕ) × (text ≡ b ∷ bs)
some-token mode token [] rest t = absurd (no-member mode (Ok token) t.longest.lexeme)
some-token mode token (b ∷ bs) rest t = (b, bs, refl)

-- the text goes on, and the rule is found behind the front
pub record IsRefusedFront (mode : Mode) (text : List ℕ) (rule : Rule) (passed : List ℕ) : Type 0 where
  pub n : ℕ
  pub first : ℕ
  pub more : List ℕ
  pub some : text ≡ first ∷ more
  pub found : front_of mode text ≡ front.Refused rule n
  pub front_is : passed ≡ take n text

member-refused : (mode : Mode) (text rest : List ℕ) (rule : Rule) → IsLongest mode (Err rule) text rest → IsRefusedFront mode (text ++ rest) rule []
member-refused mode [] rest rule i = absurd (no-member mode (Err rule) i.lexeme)
member-refused mode (b ∷ bs) rest rule i = record { n = 0; first = b; more = bs ++ rest; some = refl; found = longest-front mode (Err rule) (b ∷ bs) rest i; front_is = refl }

number-refused : (mode : Mode) (token : TokKind) (text rest : List ℕ) → IsLongest mode (Ok token) text rest → clashes token rest ≡ true → IsRefusedFront mode (text ++ rest) L1 text
number-refused mode token [] rest i c = absurd (no-member mode (Ok token) i.lexeme)
number-refused mode token (b ∷ bs) rest i c = record {
  n = length (b ∷ bs);
  first = b;
  more = bs ++ rest;
  some = refl;
  found = longest-front mode (Ok token) (b ∷ bs) rest i ∙ ap (token_front token (length (b ∷ bs))) (ap (clashes token) (drop-append_seam (b ∷ bs) rest) ∙ c);
  front_is = sym (take-append_seam (b ∷ bs) rest);
}

quote-comment : (bs : List ℕ) → comment_front (34 ∷ bs) ≡ None
quote-comment [] = refl
quote-comment (c ∷ cs) = refl

-- a string with a fault behind this value
string-front : (mode : Mode) (value rest : List ℕ) (fault : StringFault) → list_all is_character value ≡ true → string_fault rest ≡ Some fault
    → front_of mode (34 ∷ (spelling value ++ rest)) ≡ string_front (length (spelling value)) (Some fault)
unfolding front_of string_lexeme
string-front mode value rest fault a e =
    let f = body-fails rest fault e in
    let n : body_len (spelling value ++ rest) ≡ length (spelling value) = body-spelling value rest a f.0 in
    let d : drop (body_len (spelling value ++ rest)) (spelling value ++ rest) ≡ rest = ap (λ k. drop k (spelling value ++ rest)) n ∙ drop-append_seam (spelling value) rest in
    let l : lexeme mode (34 ∷ (spelling value ++ rest)) ≡ None = rw d (rw f.1 refl) in
    rw (quote-comment (spelling value ++ rest)) (rw l (rw d (rw (n, e) refl)))

nothing-refused : (mode : Mode) (b : ℕ) (rest : List ℕ) → b ≢ 34 → is_blank b ≡ false → begins_comment (b ∷ rest) ≡ false → lexeme mode (b ∷ rest) ≡ None → front_of mode (b ∷ rest) ≡ front.Refused L1 0
unfolding front_of
nothing-refused mode b rest q n c e = rw (n, comment-none (b ∷ rest) c) (rw e (go (b == 34) refl))
  where
    go : (x : Bool) → (b == 34) ≡ x → cond x (string_front (body_len rest) (string_fault (drop (body_len rest) rest))) (front.Refused L1 0) ≡ front.Refused L1 0
    go true p = absurd (q (eqb-true b 34 p))
    go false p = refl

pub refused-front : (mode : Mode) (text : List ℕ) (rule : Rule) (passed : List ℕ) → IsRefused mode text rule passed → IsRefusedFront mode text rule passed
unfolding front_of
refused-front mode text rule passed (comment body e p r f) =
    subst (λ z. IsRefusedFront mode z rule passed) (sym e) (subst (λ z. IsRefusedFront mode (47 ∷ 42 ∷ body) z passed) (sym r)
    (subst (IsRefusedFront mode (47 ∷ 42 ∷ body) L2) (sym f) (record { n = 0; first = 47; more = 42 ∷ body; some = refl; found = ap block_front (close-open body p); front_is = refl })))
refused-front mode text rule passed (member left rest e i f) =
    subst (λ z. IsRefusedFront mode z rule passed) (sym e) (subst (IsRefusedFront mode (left ++ rest) rule) (sym f) (member-refused mode left rest rule i))
refused-front mode text rule passed (behind_number token rest e i c r) =
    subst (λ z. IsRefusedFront mode z rule passed) (sym e) (subst (λ z. IsRefusedFront mode (passed ++ rest) z passed) (sym r) (number-refused mode token passed rest i c))
refused-front mode text rule passed (open_string value rest e a p r f) =
    subst (λ z. IsRefusedFront mode z rule passed) (sym e) (subst (λ z. IsRefusedFront mode (34 ∷ (spelling value ++ rest)) z passed) (sym r)
    (subst (IsRefusedFront mode (34 ∷ (spelling value ++ rest)) L2) (sym f) (record { n = 0; first = 34; more = spelling value ++ rest; some = refl; found = string-front mode value rest Unclosed a p; front_is = refl })))
refused-front mode text rule passed (bad_string value rest e a p r f) =
    subst (λ z. IsRefusedFront mode z rule passed) (sym e) (subst (λ z. IsRefusedFront mode (34 ∷ (spelling value ++ rest)) z passed) (sym r)
    (subst (IsRefusedFront mode (34 ∷ (spelling value ++ rest)) L1) (sym f) (record {
      n = suc (length (spelling value));
      first = 34;
      more = spelling value ++ rest;
      some = refl;
      found = string-front mode value rest BadByte a p;
      front_is = ap (λ z. 34 ∷ z) (sym (take-append_seam (spelling value) rest));
    })))
refused-front mode text rule passed (unknown b rest e q n c m r f) =
    subst (λ z. IsRefusedFront mode z rule passed) (sym e) (subst (λ z. IsRefusedFront mode (b ∷ rest) z passed) (sym r) (subst (IsRefusedFront mode (b ∷ rest) L1) (sym f) (record {
      n = 0;
      first = b;
      more = rest;
      some = refl;
      found = nothing-refused mode b rest q n (subst (λ z. begins_comment z ≡ false) e c) (none-found mode (b ∷ rest) (λ v part behind i g. m v part behind i (e ∙ g)));
      front_is = refl;
    })))
