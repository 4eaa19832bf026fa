-- Names keep their numbers as more get one.
use Rattle.std.proofs.Common.{◌≡◌, ◌≢◌, Some, slice_get, ℕ, ◌+◌, Bool, true, false, ◌||◌, List, [], ◌∷◌, ◌++◌, length, codes, if◌then◌else◌, refl, sym, ap, ◌∙◌, append-nil, append_assoc, subst, ◌-◌, ◌<◌, take, drop, get_or, arith, true≢false}
use Rattle.std.specs.Str.{bytes_eq}
use Rattle.std.proofs.Math.Seq.{take-length}
use Rattle.std.proofs.lemmas.Slice.Eq.{bytes_eq-Decides}
use Rattle.agxx_base.specs.Names.{number_of, is_known, interned}
use Rattle.agxx_base.proofs.Interning.{at-number}
use Rattle.agxx_base.specs.declared.ids.NameId.{NameId}
use Rattle.agxx_base.specs.declared.kind.Mode.{Mode}
use Rattle.cxx_lex.specs.declared.tok.TokKind.{TokKind}
use Rattle.cxx_lex.specs.declared.tok.TokKind.TheVariants as kind
use Rattle.cxx_lex.specs.declared.tok.Tok.{Tok}
use Rattle.cxx_lex.specs.TokList.{tokens_of}
use Rattle.cxx_lex.specs.Tokens.{Token, token_of}
use Rattle.cxx_stmt.specs.declared.dialect.Dialect.{Dialect}
use Rattle.cxx_stmt.specs.Dialect.{IsApart}
use Rattle.cxx_tree.specs.Words as w
use Rattle.cxx_tree.specs.Words.{Word}
use Rattle.cxx_expr.specs.Tokens.{Tokens}
use Rattle.cxx_parse.specs.Numbering.{IsLonger, with_name, with_names, with_special, names_of, id_in, dialect_in, word_in, words_in}

pub longer_self : (names : List (List ℕ)) → IsLonger names names
longer_self names = ([], sym (append-nil names))

pub longer_through : (a b c : List (List ℕ)) → IsLonger a b → IsLonger b c → IsLonger a c
longer_through a b c l m = (l.0 ++ m.0, m.1 ∙ ap (λ q. q ++ m.0) l.1 ∙ append_assoc a l.0 m.0)

pub longer_interned : (names : List (List ℕ)) (text : List ℕ) → IsLonger names (interned names text)
longer_interned names text = by (is_known names text) refl
  where
    by : (known : Bool) → is_known names text ≡ known → IsLonger names (interned names text)
    by true e = ([], ap (λ b. if b then names else names ++ text ∷ []) e ∙ sym (append-nil names))
    by false e = (text ∷ [], ap (λ b. if b then names else names ++ text ∷ []) e)

same-bytes : (text : List ℕ) → bytes_eq text text ≡ true
same-bytes text = (bytes_eq-Decides text text).1 refl

number-kept : (names more : List (List ℕ)) (text : List ℕ) → is_known names text ≡ true → number_of (names ++ more) text ≡ number_of names text
number-kept [] more text known = absurd (true≢false (sym known))
number-kept (name ∷ names) more text known = by (bytes_eq text name) refl (number-kept names more text)
  where
    by : (same : Bool) → bytes_eq text name ≡ same → (is_known names text ≡ true → number_of (names ++ more) text ≡ number_of names text) → number_of (name ∷ (names ++ more)) text ≡ number_of (name ∷ names) text
    by true e rest = rw e refl
    by false e rest = rw e (ap (λ n. 1 + n) (rest (sym (ap (λ b. b || is_known names text) e) ∙ known)))

known-last : (names : List (List ℕ)) (text : List ℕ) → is_known (names ++ text ∷ []) text ≡ true
known-last [] text = ap (λ b. b || false) (same-bytes text)
known-last (name ∷ names) text = by (bytes_eq text name) refl (known-last names text)
  where
    by : (same : Bool) → bytes_eq text name ≡ same → is_known (names ++ text ∷ []) text ≡ true → is_known (name ∷ (names ++ text ∷ [])) text ≡ true
    by true e rest = rw e refl
    by false e rest = rw e rest

known-interned : (names : List (List ℕ)) (text : List ℕ) → is_known (interned names text) text ≡ true
known-interned names text = by (is_known names text) refl
  where
    by : (known : Bool) → is_known names text ≡ known → is_known (interned names text) text ≡ true
    by true e = ap (λ b. is_known (if b then names else names ++ text ∷ []) text) e ∙ e
    by false e = ap (λ b. is_known (if b then names else names ++ text ∷ []) text) e ∙ known-last names text

number-end : (names : List (List ℕ)) (text : List ℕ) → is_known names text ≡ false → number_of (names ++ text ∷ []) text ≡ number_of names text
number-end [] text new = rw (same-bytes text) refl
number-end (name ∷ names) text new = by (bytes_eq text name) refl (number-end names text)
  where
    by : (same : Bool) → bytes_eq text name ≡ same → (is_known names text ≡ false → number_of (names ++ text ∷ []) text ≡ number_of names text) → number_of (name ∷ (names ++ text ∷ [])) text ≡ number_of (name ∷ names) text
    by true e rest = absurd (true≢false (sym (ap (λ b. b || is_known names text) e) ∙ new))
    by false e rest = rw e (ap (λ n. 1 + n) (rest (sym (ap (λ b. b || is_known names text) e) ∙ new)))

-- a text has the number that it gets
pub number_stays : (names : List (List ℕ)) (text : List ℕ) → number_of (interned names text) text ≡ number_of names text
number_stays names text = by (is_known names text) refl
  where
    by : (known : Bool) → is_known names text ≡ known → number_of (interned names text) text ≡ number_of names text
    by true e = ap (λ b. number_of (if b then names else names ++ text ∷ []) text) e
    by false e = ap (λ b. number_of (if b then names else names ++ text ∷ []) text) e ∙ number-end names text e

-- and keeps it
pub number-later : (names later : List (List ℕ)) (text : List ℕ) → IsLonger (interned names text) later → number_of later text ≡ number_of names text
number-later names later text l =
    ap (λ q. number_of q text) l.1 ∙ number-kept (interned names text) l.0 text (known-interned names text) ∙ number_stays names text

longer-name : (names : List (List ℕ)) (k : TokKind) (text : List ℕ) → IsLonger names (with_name names k text)
longer-name names kind.Name text = longer_interned names text
longer-name names _ text = longer_self names

pub longer-names : (names : List (List ℕ)) (ts : List Token) → IsLonger names (with_names names ts)
longer-names names [] = longer_self names
longer-names names (t ∷ ts) = longer_through names (with_name names t.kind t.text) (with_names names (t ∷ ts)) (longer-name names t.kind t.text) (longer-names (with_name names t.kind t.text) ts)

-- the word of a token stays the same as later tokens get numbers
pub word-later : (names later : List (List ℕ)) (k : TokKind) (text : List ℕ) → IsLonger (with_name names k text) later → word_in later k text ≡ word_in (with_name names k text) k text
word-later names later kind.Name text l = ap w.name (number-later names later text l ∙ sym (number_stays names text))
word-later names later _ text l = refl

-- ---- names with a meaning

abbrev id-is : (names later : List (List ℕ)) (text : List ℕ) → IsLonger (interned names text) later → id_in later text ≡ id_in names text
id-is names later text l = ap (λ n. record { 0 = n }) (number-later names later text l)

-- names keep their numbers as the other names with a meaning get theirs, and all names of a program
pub dialect-later : (mode : Mode) (names later : List (List ℕ)) → IsLonger (with_special names) later → dialect_in mode later ≡ dialect_in mode (with_special names)
dialect-later mode names later l =
    let n1 : List (List ℕ) = interned names (codes "std") in
    let n2 : List (List ℕ) = interned n1 (codes "mutex") in
    let n3 : List (List ℕ) = interned n2 (codes "thread") in
    let n4 : List (List ℕ) = interned n3 (codes "cout") in
    let n5 : List (List ℕ) = interned n4 (codes "endl") in
    let n6 : List (List ℕ) = interned n5 (codes "abort") in
    let l5 : IsLonger n5 n6 = longer_interned n5 (codes "abort") in
    let l4 : IsLonger n4 n6 = longer_through n4 n5 n6 (longer_interned n4 (codes "endl")) l5 in
    let l3 : IsLonger n3 n6 = longer_through n3 n4 n6 (longer_interned n3 (codes "cout")) l4 in
    let l2 : IsLonger n2 n6 = longer_through n2 n3 n6 (longer_interned n2 (codes "thread")) l3 in
    let l1 : IsLonger n1 n6 = longer_through n1 n2 n6 (longer_interned n1 (codes "mutex")) l2 in
    let same : (a text : _) → IsLonger (interned a text) n6 → number_of later text ≡ number_of n6 text =
    λ a text h. number-later a later text (longer_through (interned a text) n6 later h l) ∙ sym (number-later a n6 text h) in
    rw (same names (codes "std") l1, same n1 (codes "mutex") l2, same n2 (codes "thread") l3, same n3 (codes "cout") l4, same n4 (codes "endl") l5, same n5 (codes "abort") (longer_self n6)) refl

-- the numbers that names with a meaning get first stay theirs
pub dialect-then : (mode : Mode) (names : List (List ℕ)) (ts : List Token) (special new : List (List ℕ)) (d : Dialect) → d ≡ dialect_in mode special → special ≡ with_special names → new ≡ names_of names ts → d ≡ dialect_in mode new
dialect-then mode names ts special new d e s n =
    e ∙ ap (dialect_in mode) s ∙ sym (ap (dialect_in mode) n ∙ dialect-later mode names (names_of names ts) (longer-names (with_special names) ts))

pub dialect_is : (mode : Mode) (names : List (List ℕ)) (std mutex thread cout endl abort : NameId)
    → std.0 ≡ number_of names (codes "std") → mutex.0 ≡ number_of (interned names (codes "std")) (codes "mutex")
    → thread.0 ≡ number_of (interned (interned names (codes "std")) (codes "mutex")) (codes "thread")
    → cout.0 ≡ number_of (interned (interned (interned names (codes "std")) (codes "mutex")) (codes "thread")) (codes "cout")
    → endl.0 ≡ number_of (interned (interned (interned (interned names (codes "std")) (codes "mutex")) (codes "thread")) (codes "cout")) (codes "endl")
    → abort.0 ≡ number_of (interned (interned (interned (interned (interned names (codes "std")) (codes "mutex")) (codes "thread")) (codes "cout")) (codes "endl")) (codes "abort")
    → (later : List (List ℕ)) → later ≡ with_special names
    → record { mode = mode; std = std; mutex = mutex; thread = thread; cout = cout; endl = endl; abort = abort } ≡ dialect_in mode later
dialect_is mode names std mutex thread cout endl abort a b c d e f later is =
    let n1 : List (List ℕ) = interned names (codes "std") in
    let n2 : List (List ℕ) = interned n1 (codes "mutex") in
    let n3 : List (List ℕ) = interned n2 (codes "thread") in
    let n4 : List (List ℕ) = interned n3 (codes "cout") in
    let n5 : List (List ℕ) = interned n4 (codes "endl") in
    let n6 : List (List ℕ) = interned n5 (codes "abort") in
    let l5 : IsLonger n5 n6 = longer_interned n5 (codes "abort") in
    let l4 : IsLonger n4 n6 = longer_through n4 n5 n6 (longer_interned n4 (codes "endl")) l5 in
    let l3 : IsLonger n3 n6 = longer_through n3 n4 n6 (longer_interned n3 (codes "cout")) l4 in
    let l2 : IsLonger n2 n6 = longer_through n2 n3 n6 (longer_interned n2 (codes "thread")) l3 in
    let l1 : IsLonger n1 n6 = longer_through n1 n2 n6 (longer_interned n1 (codes "mutex")) l2 in
    rw is (rw (a, b, c, d, e, f, number-later names n6 (codes "std") l1, number-later n1 n6 (codes "mutex") l2, number-later n2 n6 (codes "thread") l3, number-later n3 n6 (codes "cout") l4, number-later n4 n6 (codes "endl") l5, number_stays n5 (codes "abort")) refl)

-- ---- one token more

pub owned-turn : (names next all : List (List ℕ)) (done new : Tokens) (word : Word) (t : Token) (ts whole : List Token)
    → next ≡ with_name names t.kind t.text → word ≡ word_in next t.kind t.text → with_names names (t ∷ ts) ≡ all → done ++ words_in all (t ∷ ts) ≡ words_in all whole
    → new ≡ done ++ record { at = t.at; item = word } ∷ []
    → (with_names next ts ≡ all) × (new ++ words_in all ts ≡ words_in all whole)
owned-turn names next all done new word t ts whole n w a d p =
    let later : IsLonger (with_name names t.kind t.text) all = subst (IsLonger (with_name names t.kind t.text)) a (longer-names (with_name names t.kind t.text) ts) in
    let same : word ≡ word_in all t.kind t.text = w ∙ ap (λ q. word_in q t.kind t.text) n ∙ sym (word-later names all t.kind t.text later) in (
      ap (λ q. with_names q ts) n ∙ a,
      ap (λ q. q ++ words_in all ts) p ∙ append_assoc done (record { at = t.at; item = word } ∷ []) (words_in all ts) ∙ ap (λ q. done ++ record { at = t.at; item = q } ∷ words_in all ts) same ∙ d,
    )

pub owned-left : (names next all : List (List ℕ)) (done new : Tokens) (word : Word) (left : List Tok) (x : Tok) (n : ℕ) (whole : List Token)
    → n ≡ length left - 1 → 0 < length left → next ≡ with_name names (get_or left 0 x).kind (get_or left 0 x).text.now → word ≡ word_in next (get_or left 0 x).kind (get_or left 0 x).text.now
    → with_names names (tokens_of left) ≡ all → done ++ words_in all (tokens_of left) ≡ words_in all whole → new ≡ done ++ record { at = (get_or left 0 x).at; item = word } ∷ []
    → (with_names next (tokens_of (take n (drop 1 left))) ≡ all) × (new ++ words_in all (tokens_of (take n (drop 1 left))) ≡ words_in all whole)
owned-left names next all done new word [] x n whole i h e w a d p = absurd (omega arith)
owned-left names next all done new word (t ∷ ts) x n whole i h e w a d p =
    let len : n ≡ length ts = omega (arith, i) in
    let rest : take n ts ≡ ts = ap (λ m. take m ts) len ∙ take-length ts in
    let r = owned-turn names next all done new word (token_of t) (tokens_of ts) whole e w a d p in
    (ap (λ q. with_names next (tokens_of q)) rest ∙ r.0, ap (λ q. new ++ words_in all (tokens_of q)) rest ∙ r.1)

-- ---- names with a meaning have different numbers

known-kept : (names more : List (List ℕ)) (text : List ℕ) → is_known names text ≡ true → is_known (names ++ more) text ≡ true
known-kept [] more text known = absurd (true≢false (sym known))
known-kept (name ∷ names) more text known = by (bytes_eq text name) refl (known-kept names more text)
  where
    by : (same : Bool) → bytes_eq text name ≡ same → (is_known names text ≡ true → is_known (names ++ more) text ≡ true) → is_known (name ∷ (names ++ more)) text ≡ true
    by true e rest = rw e refl
    by false e rest = rw e (rest (sym (ap (λ b. b || is_known names text) e) ∙ known))

text-at : (names later : List (List ℕ)) (text : List ℕ) → IsLonger (interned names text) later → slice_get later (number_of later text) ≡ Some text
text-at names later text l =
    at-number later text (ap (λ q. is_known q text) l.1 ∙ known-kept (interned names text) l.0 text (known-interned names text))

differ : (later a b : _) → slice_get later (number_of later a) ≡ Some a → slice_get later (number_of later b) ≡ Some b → (a ≡ b → ⊥) → number_of later a ≢ number_of later b
differ later a b p q ne e =
    let s : Some a ≡ Some b = sym p ∙ ap (slice_get later) e ∙ q in
    ne (cc)

pub apart-later : (mode : Mode) (names later : List (List ℕ)) → IsLonger (with_special names) later → IsApart (dialect_in mode later)
apart-later mode names later l =
    let n1 : List (List ℕ) = interned names (codes "std") in
    let n2 : List (List ℕ) = interned n1 (codes "mutex") in
    let n3 : List (List ℕ) = interned n2 (codes "thread") in
    let n4 : List (List ℕ) = interned n3 (codes "cout") in
    let n5 : List (List ℕ) = interned n4 (codes "endl") in
    let n6 : List (List ℕ) = interned n5 (codes "abort") in
    let l5 : IsLonger n5 n6 = longer_interned n5 (codes "abort") in
    let l4 : IsLonger n4 n6 = longer_through n4 n5 n6 (longer_interned n4 (codes "endl")) l5 in
    let l3 : IsLonger n3 n6 = longer_through n3 n4 n6 (longer_interned n3 (codes "cout")) l4 in
    let thread : slice_get later (number_of later (codes "thread")) ≡ Some (codes "thread") = text-at n2 later (codes "thread") (longer_through n3 n6 later l3 l) in
    let cout : slice_get later (number_of later (codes "cout")) ≡ Some (codes "cout") = text-at n3 later (codes "cout") (longer_through n4 n6 later l4 l) in
    let abort : slice_get later (number_of later (codes "abort")) ≡ Some (codes "abort") = text-at n5 later (codes "abort") l in
    record {
      thread_cout = differ later (codes "thread") (codes "cout") thread cout (λ e. cc);
      thread_abort = differ later (codes "thread") (codes "abort") thread abort (λ e. cc);
      cout_abort = differ later (codes "cout") (codes "abort") cout abort (λ e. cc);
    }

pub apart-of : (mode : Mode) (names : List (List ℕ)) (ts : List Token) → IsApart (dialect_in mode (names_of names ts))
apart-of mode names ts = apart-later mode names (names_of names ts) (longer-names (with_special names) ts)

-- as later names get numbers
pub longer_five : (names : List (List ℕ)) → IsLonger names (interned (interned (interned (interned (interned names (codes "std")) (codes "mutex")) (codes "thread")) (codes "cout")) (codes "endl"))
longer_five names =
    let n1 : List (List ℕ) = interned names (codes "std") in
    let n2 : List (List ℕ) = interned n1 (codes "mutex") in
    let n3 : List (List ℕ) = interned n2 (codes "thread") in
    let n4 : List (List ℕ) = interned n3 (codes "cout") in
    longer_through names n1 _ (longer_interned names (codes "std")) (longer_through n1 n2 _ (longer_interned n1 (codes "mutex")) (longer_through n2 n3 _ (longer_interned n2 (codes "thread"))
    (longer_through n3 n4 _ (longer_interned n3 (codes "cout")) (longer_interned n4 (codes "endl")))))

pub longer_special : (names : List (List ℕ)) → IsLonger names (with_special names)
longer_special names = longer_through names _ (with_special names) (longer_five names) (longer_interned _ (codes "abort"))

-- what the words of a program do to the names
pub ruleset longer_names = (longer_self, longer_interned, longer_through, longer_five, longer_special)

-- what one token does to the names
pub ruleset number_of_name = (number_stays, longer_self, longer_interned)
