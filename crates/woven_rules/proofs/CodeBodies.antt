-- The bodies that repair and renew the words of a part violate no rule, whatever code it has.
use Rattle.std.proofs.Common.{◌≡◌, ◌≢◌, refl, sym, subst, ℕ, suc, ◌+◌, ◌<◌, ◌^◌, arith, true, List, [], ◌∷◌, ◌++◌, map, length, None, is_some}
use Rattle.std.specs.List.{range_with_len}
use Rattle.agxx_base.specs.declared.ids.NameId.{NameId}
use Rattle.cxx_tree.specs.declared.node.Placed.{Placed}
use Rattle.cxx_tree.specs.declared.program.Member.{Member}
use Rattle.cxx_tree.specs.Limits.{Every}
use Rattle.cxx_tree.specs.StmtTree.{StmtTree, listed_stmts}
use Rattle.cxx_tree.specs.ProgramTree.{ClassTree}
use Rattle.cxx_names.specs.declared.types.Thing.{Thing}
use Rattle.cxx_names.specs.Tables.{named}
use Rattle.cxx_distinct.specs.NamesIn as n
use Rattle.cxx_rules.specs.StmtForms as f
use Rattle.cxx_make.specs.Generated.{text_of}
use Rattle.cxx_make.specs.Made as made
use Rattle.guards.specs.declared.guard.GuardKind.{GuardKind}
use Rattle.guards.specs.declared.guard.GuardKind.TheVariants as guard
use Rattle.codec.specs.Copies as copies
use Rattle.hamming_gen.specs.Positions.{check_words, next_position}
use Rattle.hamming_gen.specs.HammingNames as hamming
use Rattle.hamming_gen.specs.HammingTrees as h
use Rattle.hamming_gen.specs.declared.words.MemberWord.{MemberWord}
use Rattle.hamming_gen.specs.declared.words.CheckWord.{CheckWord}
use Rattle.hamming_gen.specs.declared.words.PartWords.{PartWords}
use Rattle.protect.specs.GuardedParts as g
use Rattle.protect.specs.Protected as z
use Rattle.protect_laws.proofs.CheckWords.{few-checks}
use Rattle.protect_laws.proofs.Exits.{front-of, back-of}
use Rattle.protect_laws.proofs.Known.{every-unmapped, every-by}
use Rattle.protect_laws.specs.Strip.{AreKnown}
use Rattle.woven_rules.proofs.Right.{Rights}
use Rattle.woven_rules.proofs.Numeric.{HoldsNumber}
use Rattle.woven_rules.proofs.Tags as t
use Rattle.woven_rules.proofs.Tags.{IsKnown}
use Rattle.woven_rules.proofs.Members.{members}
use Rattle.woven_rules.proofs.Keys.{key, part, extra_members, extra_keys, check_keys}
use Rattle.woven_rules.proofs.World.{Setting, Own, IsFound, Facts, guard_in}
use Rattle.woven_rules.proofs.Inherits.{of-members, part-known}
use Rattle.woven_rules.proofs.OwnItems.{IsNumberMember, own-found, extras-found}
use Rattle.woven_rules.proofs.PartBodies.{At, IsKnownTag, HasFirst, HasSecond, holds-number, copies-repair-right, copies-renew-right}
use Rattle.woven_rules.proofs.HammingBodies.{Apart, IsGood, Scope, locals_of, repair-words-right, renew-words-right}
use Rattle.woven_rules.proofs.WordLocals.{HasLetter, IsLocalName, letters-differ, letter-foreign, letter-no-class, locals-apart, locals-are-local}
use Rattle.woven_rules.proofs.PartLocals.{locals, locals-are}

module _ (s : Setting) (f' : Facts s) (class : ℕ) (k : ClassTree) (c : IsFound s class k)
    (some : is_some (g.part_of s.guards k) ≡ true) (index : ℕ) where
  abbrev names : List (List ℕ)
  names = s.names

  abbrev ms : List Member
  ms = members k.items

  abbrev HoldsOne : Member → Type 0
  HoldsOne m = IsNumberMember s f' class k c m.name.item.0

  -- statements by themselves violate no rule
  abbrev AreFine : List StmtTree → Type 0
  AreFine ts = (l r : ℕ) → Rights (f.forms_of_stmts (At s f' class k c some index [] l r) true (listed_stmts ts))

  -- ---- names in use

  -- a member of a part, whose name is no local's
  pub record IsUse (j : NameId) : Type 0 where
    pub number : IsNumberMember s f' class k c j.0
    pub apart : (m : NameId) → IsLocalName s f' m → j.0 ≢ m.0

  use-number : (j : NameId) → IsUse j → (scope : List (ℕ × Thing)) → named scope j.0 ≡ None → (l r : ℕ)
      → HoldsNumber (At s f' class k c some index scope l r) (made.ref k.name.at j)
  use-number j used scope none l r = holds-number s f' class k c some index scope l r j used.number none

  own-used : (m : Member) → HoldsOne m → Own s m.name.item.0 → IsUse m.name.item
  own-used m number own =
      record { number = number; apart = λ other is. letter-foreign s f' is.code other is.has m.name.item.0 own }

  check-letter : (j : ℕ) → IsKnown names (t.check j) k.name.item
      → HasLetter s f' 104 (hamming.check_name names k.name.item j)
  check-letter j known =
      record {
        text = t.lead (t.check j)
            ++ text_of names k.name.item;
        is = refl;
        known = known;
        generated = refl;
        letter = refl;
      }

  parity-letter : IsKnown names t.parity k.name.item → HasLetter s f' 112 (hamming.parity_name names k.name.item)
  parity-letter known =
      record {
        text = t.lead t.parity
            ++ text_of names k.name.item;
        is = refl;
        known = known;
        generated = refl;
        letter = refl;
      }

  check-used : (j : ℕ) → IsKnown names (t.check j) k.name.item
      → IsNumberMember s f' class k c (hamming.check_name names k.name.item j).0
      → IsUse (hamming.check_name names k.name.item j)
  check-used j known number = record {
    number = number;
    apart =
        λ other is same. letters-differ s f' is.code 104 other (hamming.check_name names k.name.item j) is.has
        (check-letter j known) (λ e. is.no_check (sym e)) same;
  }

  parity-used : IsKnown names t.parity k.name.item
      → IsNumberMember s f' class k c (hamming.parity_name names k.name.item).0
      → IsUse (hamming.parity_name names k.name.item)
  parity-used known number = record {
    number = number;
    apart =
        λ other is same. letters-differ s f' is.code 112 other (hamming.parity_name names k.name.item) is.has
        (parity-letter known) (λ e. is.no_parity (sym e)) same;
  }

  -- ---- check words and a parity word

  module _ (found : Every HoldsOne (extra_members names guard.Hamming k.name ms))
      (known : Every (IsKnownTag s f' class k c some index) (extra_keys names guard.Hamming k.name ms))
      (texts : AreKnown names (hamming.local_texts (length ms))) where
    abbrev r : ℕ
    r = check_words (length ms)

    abbrev check_member : ℕ → Member
    check_member j = h.word_member k.name.at (hamming.check_name names k.name.item j)

    abbrev words : PartWords
    words = hamming.part_words names (part names k.name ms)

    checks-used : (js : List ℕ) → Every HoldsOne (map check_member js)
        → Every (IsKnownTag s f' class k c some index) (check_keys names k.name js)
        → Every (λ (w : CheckWord). IsUse w.name) (map (hamming.check_word names k.name.item) js)
    checks-used [] numbers are = tt
    checks-used (j ∷ js) numbers are = (check-used j are.0 numbers.0, checks-used js numbers.1 are.1)

    members-used : (i p : ℕ) (xs : List Member) → Every HoldsOne xs → Every (λ (m : Member). Own s m.name.item.0) xs
        → Every (λ (w : MemberWord). IsUse w.member.name.item) (hamming.member_words names i p xs)
    members-used i p [] numbers own = tt
    members-used i p (m ∷ xs) numbers own =
        (own-used m numbers.0 own.0, members-used (suc i) (next_position p) xs numbers.1 own.1)

    own-names : Every (λ (m : Member). Own s m.name.item.0) ms
    own-names =
        of-members (λ (x : Placed NameId). Own s x.item.0) k.items
        (back-of (λ (x : Placed NameId). Own s x.item.0) (n.names_in_base_of k.base) _ c.also.own.1)

    abbrev parity_member : Member
    parity_member = h.word_member k.name.at (hamming.parity_name names k.name.item)

    use-members : Every (λ (w : MemberWord). IsUse w.member.name.item) words.members
    use-members = members-used 1 3 ms (own-found s f' class k c) own-names

    use-checks : Every (λ (w : CheckWord). IsUse w.name) words.checks
    use-checks =
        checks-used (range_with_len 0 r)
        (front-of HoldsOne (map check_member (range_with_len 0 r)) (parity_member ∷ []) found)
        (front-of (IsKnownTag s f' class k c some index) (check_keys names k.name (range_with_len 0 r))
        (key t.parity k.name.item ∷ []) known)

    use-parity : IsUse words.parity
    use-parity =
        parity-used (back-of (IsKnownTag s f' class k c some index) (check_keys names k.name (range_with_len 0 r))
        (key t.parity k.name.item ∷ []) known).0
        (back-of HoldsOne (map check_member (range_with_len 0 r)) (parity_member ∷ []) found).0

    -- ---- their locals

    abbrev all_locals : List NameId
    all_locals = locals_of words

    locals-same : all_locals ≡ locals names (length ms) r
    locals-same = locals-are names (part names k.name ms)

    few : length ms < 2 ^ 32
    few = let low = c.also.few some in omega arith

    few-r : r < 2 ^ 32
    few-r = let low = c.also.few some in let most = few-checks (length ms) in omega arith

    abbrev nothing : List (ℕ × Thing)
    nothing = []

    none-named : (ns : List NameId) → Every (λ (m : NameId). named nothing m.0 ≡ None) ns
    none-named [] = tt
    none-named (m ∷ ns) = (refl, none-named ns)

    scope : Scope (At s f' class k c some index [] 0 0) k.name.at IsUse use-number [] all_locals
    scope = record {
      uses = λ j is. refl;
      free = none-named all_locals;
      apart = subst Apart (sym locals-same) (locals-apart s f' (length ms) r few few-r texts);
      good = subst (Every (IsGood (At s f' class k c some index [] 0 0) k.name.at IsUse use-number)) (sym locals-same)
          (every-by (IsLocalName s f') (IsGood (At s f' class k c some index [] 0 0) k.name.at IsUse use-number)
          (λ m is. (letter-no-class s f' is.code m is.has, λ j used. used.apart m is))
          (locals names (length ms) r)
          (locals-are-local s f' (length ms) r few few-r texts));
    }

    hamming-repair-right : AreFine (h.part_repair names (part names k.name ms))
    hamming-repair-right =
        repair-words-right (At s f' class k c some index [] 0 0) k.name.at IsUse use-number words use-members
        use-checks use-parity [] scope

    hamming-renew-right : AreFine (h.part_renew names (part names k.name ms))
    hamming-renew-right =
        renew-words-right (At s f' class k c some index [] 0 0) k.name.at IsUse use-number words use-members
        use-checks use-parity [] scope

  -- ---- of each code

  module _ (found : Every HoldsOne
      (map (copies.first_member names k.name.at) ms ++ map (copies.second_member names k.name.at) ms)) where
    firsts-found : Every (HasFirst s f' class k c some index) ms
    firsts-found =
        every-unmapped HoldsOne (copies.first_member names k.name.at) ms
        (front-of HoldsOne (map (copies.first_member names k.name.at) ms)
        (map (copies.second_member names k.name.at) ms) found)

    seconds-found : Every (HasSecond s f' class k c some index) ms
    seconds-found =
        every-unmapped HoldsOne (copies.second_member names k.name.at) ms
        (back-of HoldsOne (map (copies.first_member names k.name.at) ms)
        (map (copies.second_member names k.name.at) ms) found)

  repair-of : (kind : GuardKind) → Every HoldsOne (extra_members names kind k.name ms)
      → Every (IsKnownTag s f' class k c some index) (extra_keys names kind k.name ms)
      → AreKnown names ((z.code_of kind).local_texts (length ms))
      → AreFine ((z.code_of kind).repair names (part names k.name ms))
  repair-of guard.Copies found known texts =
      copies-repair-right s f' class k c some index (firsts-found found) (seconds-found found) known texts
  repair-of guard.Hamming found known texts = hamming-repair-right found known texts

  renew-of : (kind : GuardKind) → Every HoldsOne (extra_members names kind k.name ms)
      → Every (IsKnownTag s f' class k c some index) (extra_keys names kind k.name ms)
      → AreKnown names ((z.code_of kind).local_texts (length ms))
      → AreFine ((z.code_of kind).renew names (part names k.name ms))
  renew-of guard.Copies found known texts =
      copies-renew-right s f' class k c some index (firsts-found found) (seconds-found found) known texts
  renew-of guard.Hamming found known texts = hamming-renew-right found known texts

  extras-known : Every (IsKnownTag s f' class k c some index) (extra_keys names (guard_in s k) k.name ms)
  extras-known =
      front-of (IsKnownTag s f' class k c some index) (extra_keys names (guard_in s k) k.name ms) _
      (part-known s k c.also some).keys

  pub repair-right : AreFine ((z.code_of (guard_in s k)).repair names (part names k.name ms))
  repair-right =
      repair-of (guard_in s k) (extras-found s f' class k c some) extras-known (part-known s k c.also some).locals

  pub renew-right : AreFine ((z.code_of (guard_in s k)).renew names (part names k.name ms))
  renew-right =
      renew-of (guard_in s k) (extras-found s f' class k c some) extras-known (part-known s k c.also some).locals
