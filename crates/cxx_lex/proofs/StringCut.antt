-- Strings at the front of a text.
use Rattle.std.proofs.Common.{◌≡◌, ℕ, zero, suc, ◌≤◌, ◌+◌, Bool, true, false, cond, List, [], ◌∷◌, ◌++◌, take, drop, length, length-append, append_assoc, append-nil, Some, None, Ok, refl, sym, ap, ◌∙◌, subst, arith}
use Rattle.std.specs.Prelude.{◌==◌, ◌||◌}
use Rattle.std.specs.List.{list_all}
use Rattle.std.proofs.lemmas.Bool.{eqb-true}
use Rattle.std.proofs.lemmas.Bool.Decides.{nat_tests}
use Rattle.std.proofs.Math.Seq.{drop-append_seam}
use Rattle.cxx_lex.specs.declared.strings.StringFault.{StringFault}
use Rattle.cxx_lex.specs.declared.strings.StringFault.TheVariants.{Unclosed, BadByte}
use Rattle.cxx_lex.specs.declared.tok.Lexeme.{Lexeme}
use Rattle.cxx_lex.specs.declared.tok.TokKind.TheVariants as kind
use Rattle.cxx_lex.specs.Bytes.{is_plain, is_escape, begins_with}
use Rattle.cxx_lex.specs.Strings.{is_character, spelled, spelling, IsString, escape_fault, string_fault, escape_value, meant, string_value, ReadsQuoted}
use Rattle.cxx_lex.specs.StringScan.{body_len, escape_len, string_lexeme}
use Rattle.cxx_lex.proofs.Runs.{both}

-- ---- one spelled byte

-- what holds of the four escapes and of each plain byte holds of each character
spelled-cases : (P : ℕ → List ℕ → Type 0) → P 10 (92 ∷ 110 ∷ []) → P 9 (92 ∷ 116 ∷ []) → P 92 (92 ∷ 92 ∷ []) → P 34 (92 ∷ 34 ∷ [])
    → ((b : ℕ) → is_plain b ≡ true → (b == 92) ≡ false → (b == 34) ≡ false → P b (b ∷ [])) → (b : ℕ) → is_character b ≡ true → P b (spelled b)
spelled-cases P n t s q p b h = go (b == 10) refl (b == 9) refl (b == 92) refl (b == 34) refl
  where
    go : (v : Bool) → (b == 10) ≡ v → (w : Bool) → (b == 9) ≡ w → (x : Bool) → (b == 92) ≡ x → (y : Bool) → (b == 34) ≡ y → P b (spelled b)
    go true e w f x g y i = subst (λ z. P z (spelled z)) (sym (eqb-true b 10 e)) n
    go false e true f x g y i = subst (λ z. P z (spelled z)) (sym (eqb-true b 9 f)) t
    go false e false f true g y i = subst (λ z. P z (spelled z)) (sym (eqb-true b 92 g)) s
    go false e false f false g true i = subst (λ z. P z (spelled z)) (sym (eqb-true b 34 i)) q
    go false e false f false g false i = rw (e, f, g, i) (p b (grind (arith, nat_tests, e, f, g, i, h)) g i)

meant-spelled : (rest : List ℕ) (b : ℕ) → is_character b ≡ true → meant (spelled b ++ rest) ≡ b ∷ meant rest
meant-spelled rest = spelled-cases (λ b text. meant (text ++ rest) ≡ b ∷ meant rest) refl refl refl refl (λ b p s q. rw (q, s) refl)

body-spelled : (rest : List ℕ) (b : ℕ) → is_character b ≡ true → body_len (spelled b ++ rest) ≡ length (spelled b) + body_len rest
body-spelled rest = spelled-cases (λ b text. body_len (text ++ rest) ≡ length text + body_len rest) (omega arith) (omega arith) (omega arith) (omega arith) (λ b p s q. rw (p, s) (omega arith))

-- ---- whole bodies

meant-spelling : (value rest : List ℕ) → list_all is_character value ≡ true → meant (spelling value ++ rest) ≡ value ++ meant rest
meant-spelling [] rest a = refl
meant-spelling (b ∷ value) rest a =
    let c = both (is_character b) (list_all is_character value) a in
    ap meant (append_assoc (spelled b) (spelling value) rest) ∙ meant-spelled (spelling value ++ rest) b c.0 ∙ ap (λ q. b ∷ q) (meant-spelling value rest c.1)

pub reads_quoted : ReadsQuoted
reads_quoted value text s = ap string_value s.1 ∙ meant-spelling value (34 ∷ []) s.0 ∙ append-nil value

pub body-spelling : (value rest : List ℕ) → list_all is_character value ≡ true → body_len rest ≡ 0 → body_len (spelling value ++ rest) ≡ length (spelling value)
body-spelling [] rest a z = z
body-spelling (b ∷ value) rest a z =
    let c = both (is_character b) (list_all is_character value) a in
    ap body_len (append_assoc (spelled b) (spelling value) rest) ∙ body-spelled (spelling value ++ rest) b c.0
    ∙ ap (λ n. length (spelled b) + n) (body-spelling value rest c.1 z) ∙ sym (length-append (spelled b) (spelling value))

abbrev IsEscaped : ℕ → Type 0
IsEscaped c = (is_character (escape_value c) ≡ true) × (spelled (escape_value c) ≡ 92 ∷ c ∷ [])

escape-spelled : (c : ℕ) → is_escape c ≡ true → IsEscaped c
escape-spelled c h = go (c == 110) refl (c == 116) refl (c == 92) refl (c == 34) refl
  where
    go : (w : Bool) → (c == 110) ≡ w → (x : Bool) → (c == 116) ≡ x → (y : Bool) → (c == 92) ≡ y → (z : Bool) → (c == 34) ≡ z → IsEscaped c
    go true e x f y g z i = subst IsEscaped (sym (eqb-true c 110 e)) (refl, refl)
    go false e true f y g z i = subst IsEscaped (sym (eqb-true c 116 f)) (refl, refl)
    go false e false f true g z i = subst IsEscaped (sym (eqb-true c 92 g)) (refl, refl)
    go false e false f false g true i = subst IsEscaped (sym (eqb-true c 34 i)) (refl, refl)
    go false e false f false g false i = let k : false ≡ true = sym (rw (e, f, g, i) refl) ∙ h in cc

plain-spelled : (b : ℕ) → is_plain b ≡ true → (is_character b ≡ true) × (spelled b ≡ b ∷ [])
plain-spelled b h =
    let n : (b == 10) ≡ false = grind (arith, nat_tests, h) in
    let t : (b == 9) ≡ false = grind (arith, nat_tests, h) in
    let s : (b == 92) ≡ false = grind (arith, nat_tests, h) in
    let q : (b == 34) ≡ false = grind (arith, nat_tests, h) in
    (grind (arith, nat_tests, h), rw (n, t, s, q) refl)

-- the bytes that are counted spell some value
pub record IsBody (text : List ℕ) : Type 0 where
  pub value : List ℕ
  pub characters : list_all is_character value ≡ true
  pub spells : spelling value ≡ text

longer-body : (b : ℕ) (text front : List ℕ) → is_character b ≡ true → spelled b ≡ front → IsBody text → IsBody (front ++ text)
longer-body b text front c s i = record { value = b ∷ i.value; characters = rw c i.characters; spells = ap (λ q. q ++ spelling i.value) s ∙ ap (λ q. front ++ q) i.spells }

no-body : IsBody []
no-body = record { value = []; characters = refl; spells = refl }

body-by : (b : ℕ) (bs : List ℕ) (x : Bool) → (b == 92) ≡ x → (y : Bool) → is_plain b ≡ y → IsBody (take (body_len bs) bs) → (IsBody (take (escape_len bs) (92 ∷ bs))) → IsBody (take (body_len (b ∷ bs)) (b ∷ bs))
body-by b bs true e y f i j = rw e (subst (λ q. IsBody (take (escape_len bs) (q ∷ bs))) (sym (eqb-true b 92 e)) j)
body-by b bs false e true f i j = rw (f, e) (let p = plain-spelled b f in longer-body b (take (body_len bs) bs) (b ∷ []) p.0 p.1 i)
body-by b bs false e false f i j = rw (f, e) no-body

escape-by : (c : ℕ) (cs : List ℕ) (x : Bool) → is_escape c ≡ x → IsBody (take (body_len cs) cs) → IsBody (take (escape_len (c ∷ cs)) (92 ∷ c ∷ cs))
escape-by c cs true e i = rw e (let p = escape-spelled c e in longer-body (escape_value c) (take (body_len cs) cs) (92 ∷ c ∷ []) p.0 p.1 i)
escape-by c cs false e i = rw e no-body

mutual
  pub body-is : (text : List ℕ) → IsBody (take (body_len text) text)
  body-is [] = no-body
  body-is (b ∷ bs) = body-by b bs (b == 92) refl (is_plain b) refl (body-is bs) (escape-is bs)

  escape-is : (text : List ℕ) → IsBody (take (escape_len text) (92 ∷ text))
  escape-is [] = no-body
  escape-is (c ∷ cs) = escape-by c cs (is_escape c) refl (body-is cs)

-- ---- behind the body

rest-by : (b : ℕ) (bs : List ℕ) (x : Bool) → (b == 92) ≡ x → (y : Bool) → is_plain b ≡ y → body_len (drop (body_len bs) bs) ≡ 0 → body_len (drop (escape_len bs) (92 ∷ bs)) ≡ 0 → body_len (drop (body_len (b ∷ bs)) (b ∷ bs)) ≡ 0
rest-by b bs true e y f i j = rw e (subst (λ q. body_len (drop (escape_len bs) (q ∷ bs)) ≡ 0) (sym (eqb-true b 92 e)) j)
rest-by b bs false e true f i j = rw (f, e) i
rest-by b bs false e false f i j = rw (f, e) (rw (f, e) refl)

escape-rest-by : (c : ℕ) (cs : List ℕ) (x : Bool) → is_escape c ≡ x → body_len (drop (body_len cs) cs) ≡ 0 → body_len (drop (escape_len (c ∷ cs)) (92 ∷ c ∷ cs)) ≡ 0
escape-rest-by c cs true e i = rw e i
escape-rest-by c cs false e i = rw e (rw e refl)

mutual
  body-rest : (text : List ℕ) → body_len (drop (body_len text) text) ≡ 0
  body-rest [] = refl
  body-rest (b ∷ bs) = rest-by b bs (b == 92) refl (is_plain b) refl (body-rest bs) (escape-rest bs)

  escape-rest : (text : List ℕ) → body_len (drop (escape_len text) (92 ∷ text)) ≡ 0
  escape-rest [] = refl
  escape-rest (c ∷ cs) = escape-rest-by c cs (is_escape c) refl (body-rest cs)

-- where the body ends a quote stands, or a fault
escape-ends : (cs : List ℕ) → escape_len cs ≡ 0 → escape_fault cs ≡ None → ⊥
escape-ends [] z n = cc
escape-ends (c ∷ cs) z n = go (c == 10) (is_escape c) n z
  where
    go : (x y : Bool) → cond x (Some Unclosed) (cond y None (Some BadByte)) ≡ None → cond y (suc (suc (body_len cs))) 0 ≡ 0 → ⊥
    go true y m k = cc
    go false true m k = absurd (omega (arith, k))
    go false false m k = cc

body-ends : (rest : List ℕ) → body_len rest ≡ 0 → string_fault rest ≡ None → begins_with 34 rest ≡ true
body-ends [] z n = cc
body-ends (b ∷ bs) z n = go (b == 10) (b == 92) (b == 34) (is_plain b) n z
  where
    go : (w x y p : Bool) → cond w (Some Unclosed) (cond x (escape_fault bs) (cond (y || p) None (Some BadByte))) ≡ None → cond x (escape_len bs) (cond p (suc (body_len bs)) 0) ≡ 0 → y ≡ true
    go true x y p m k = cc
    go false true y p m k = absurd (escape-ends bs k m)
    go false false true p m k = refl
    go false false false true m k = absurd (omega (arith, k))
    go false false false false m k = cc

pub string-ends : (text : List ℕ) → string_fault (drop (body_len text) text) ≡ None → begins_with 34 (drop (body_len text) text) ≡ true
string-ends text = body-ends (drop (body_len text) text) (body-rest text)

-- at a fault no body goes on, and no quote stands
escape-fails : (cs : List ℕ) (fault : StringFault) → escape_fault cs ≡ Some fault → escape_len cs ≡ 0
escape-fails [] fault e = refl
escape-fails (c ∷ cs) fault e = go (c == 10) refl (is_escape c) refl e
  where
    go : (x : Bool) → (c == 10) ≡ x → (y : Bool) → is_escape c ≡ y → cond x (Some Unclosed) (cond y None (Some BadByte)) ≡ Some fault → cond y (suc (suc (body_len cs))) 0 ≡ 0
    go x f false g m = refl
    go true f true g m = let k : false ≡ true = sym (ap is_escape (eqb-true c 10 f)) ∙ g in cc
    go false f true g m = cc

pub body-fails : (rest : List ℕ) (fault : StringFault) → string_fault rest ≡ Some fault → (body_len rest ≡ 0) × (begins_with 34 rest ≡ false)
body-fails [] fault e = (refl, refl)
body-fails (b ∷ bs) fault e = go (b == 10) refl (b == 92) refl (b == 34) refl (is_plain b) refl e
  where
    go : (w : Bool) → (b == 10) ≡ w → (x : Bool) → (b == 92) ≡ x → (y : Bool) → (b == 34) ≡ y → (p : Bool) → is_plain b ≡ p → cond w (Some Unclosed) (cond x (escape_fault bs) (cond (y || p) None (Some BadByte))) ≡ Some fault
        → (cond x (escape_len bs) (cond p (suc (body_len bs)) 0) ≡ 0) × (y ≡ false)
    go true f x g y h p i m = (absurd-less x g p i, no-quote y h)
      where
        s : b ≡ 10
        s = eqb-true b 10 f

        absurd-less : (x : Bool) → (b == 92) ≡ x → (p : Bool) → is_plain b ≡ p → cond x (escape_len bs) (cond p (suc (body_len bs)) 0) ≡ 0
        absurd-less true g p i = let k : false ≡ true = sym (ap (λ z. z == 92) s) ∙ g in cc
        absurd-less false g true i = let k : false ≡ true = sym (ap is_plain s) ∙ i in cc
        absurd-less false g false i = refl

        no-quote : (y : Bool) → (b == 34) ≡ y → y ≡ false
        no-quote y h = sym h ∙ ap (λ z. z == 34) s
    go false f true g y h p i m = (escape-fails bs fault m, sym h ∙ ap (λ z. z == 34) (eqb-true b 92 g))
    go false f false g true h p i m = cc
    go false f false g false h true i m = cc
    go false f false g false h false i m = (refl, refl)

-- ---- the whole string

pub take-more : (n : ℕ) (xs : List ℕ) (x : ℕ) (more : List ℕ) → drop n xs ≡ x ∷ more → (take (suc n) xs ≡ take n xs ++ x ∷ []) × (suc n ≤ length xs)
take-more zero [] x more e = cc
take-more zero (y ∷ xs) x more e = let s : y ≡ x = cc in (ap (λ q. q ∷ []) s, omega arith)
take-more (suc n) [] x more e = cc
take-more (suc n) (y ∷ xs) x more e = let r = take-more n xs x more e in (ap (λ q. y ∷ q) r.0, omega (arith, r.1))

pub quote-first : (text : List ℕ) → begins_with 34 text ≡ true → (more : List ℕ) × (text ≡ 34 ∷ more)
quote-first [] e = cc
quote-first (b ∷ bs) e = (bs, ap (λ q. q ∷ bs) (eqb-true b 34 e))

pub record IsStringCut (text : List ℕ) (l : Lexeme) : Type 0 where
  pub value : List ℕ
  pub string : IsString value (take l.len (34 ∷ text))
  pub kind : l.kind ≡ Ok kind.Text
  pub some : (m : ℕ) × (l.len ≡ suc m)
  pub within : l.len ≤ suc (length text)

pub string-cut : (text : List ℕ) (l : Lexeme) → string_lexeme text ≡ Some l → IsStringCut text l
unfolding string_lexeme
string-cut text l e = go (begins_with 34 (drop (body_len text) text)) refl e
  where
    found : Lexeme
    found = record { kind = Ok kind.Text; len = suc (suc (body_len text)) }

    cut : begins_with 34 (drop (body_len text) text) ≡ true → IsStringCut text (record { kind = Ok kind.Text; len = suc (suc (body_len text)) })
    cut f =
        let q = quote-first (drop (body_len text) text) f in
        let t = take-more (body_len text) text 34 q.0 q.1 in
        let b = body-is text in
        record {
          value = b.value;
          string = (b.characters, ap (λ z. 34 ∷ z) (t.0 ∙ ap (λ z. z ++ 34 ∷ []) (sym b.spells)));
          kind = refl;
          some = (suc (body_len text), refl);
          within = omega (arith, t.1);
        }

    go : (x : Bool) → begins_with 34 (drop (body_len text) text) ≡ x → cond x (Some (record { kind = Ok kind.Text; len = suc (suc (body_len text)) })) None ≡ Some l → IsStringCut text l
    go true f g = let s : record { kind = Ok kind.Text; len = suc (suc (body_len text)) } ≡ l = cc in subst (IsStringCut text) s (cut f)
    go false f g = cc

-- a string that stands here is the one that is found
pub string-exact : (value front behind text : List ℕ) → IsString value front → 34 ∷ text ≡ front ++ behind → string_lexeme text ≡ Some (record { kind = Ok kind.Text; len = length front })
unfolding string_lexeme
string-exact value front behind text s e =
    let whole : 34 ∷ text ≡ 34 ∷ ((spelling value ++ 34 ∷ []) ++ behind) = e ∙ ap (λ q. q ++ behind) s.1 in
    let rest : text ≡ spelling value ++ 34 ∷ behind = let t : text ≡ (spelling value ++ 34 ∷ []) ++ behind = cc in t ∙ append_assoc (spelling value) (34 ∷ []) behind in
    let n : body_len text ≡ length (spelling value) = ap body_len rest ∙ body-spelling value (34 ∷ behind) s.0 refl in
    let d : drop (body_len text) text ≡ 34 ∷ behind = ap (λ k. drop k text) n ∙ ap (drop (length (spelling value))) rest ∙ drop-append_seam (spelling value) (34 ∷ behind) in
    let m : suc (suc (body_len text)) ≡ length front = omega (arith, n, ap length s.1, length-append (spelling value) (34 ∷ [])) in
    rw d (ap (λ k. Some (record { kind = Ok kind.Text; len = k })) m)
