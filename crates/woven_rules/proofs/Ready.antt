-- All that is known of a program that is ready, and of its protected program.
use Rattle.std.proofs.Common.{◌≡◌, refl, sym, ap, ◌∙◌, subst, ℕ, suc, ◌≤◌, arith, true, List, [], ◌∷◌, Option, Some, None, is_some, codes}
use Rattle.std.specs.Option.{unwrap_or}
use Rattle.agxx_base.specs.declared.place.Place.{Place}
use Rattle.agxx_base.specs.declared.kind.Mode.TheVariants as mode
use Rattle.cxx_tree.specs.declared.program.Access.{Access}
use Rattle.cxx_tree.specs.declared.program.Access.TheVariants as access
use Rattle.cxx_tree.specs.declared.program.Member.{Member}
use Rattle.cxx_tree.specs.Limits.{Every}
use Rattle.cxx_tree.specs.ProgramTree as tree
use Rattle.cxx_tree.specs.ProgramTree.{ItemTree, ClassTree, DeclTree, ProgramTree}
use Rattle.cxx_names.specs.declared.declarations.Declared.{Declared}
use Rattle.cxx_names.specs.Declarations as d
use Rattle.cxx_names.specs.Tables.{with_name}
use Rattle.cxx_distinct.specs.NamesIn as n
use Rattle.cxx_types.specs.declared.programs.DeclsSeen.{DeclsSeen}
use Rattle.cxx_types.specs.declared.limits.Counts.{Counts}
use Rattle.cxx_types.specs.Counts.{most}
use Rattle.cxx_types.specs.Classes as classes
use Rattle.cxx_types.specs.Programs as programs
use Rattle.cxx_rules.specs.ProgramForms as p
use Rattle.guards.specs.declared.guard.Guard.{Guard}
use Rattle.guards.specs.declared.guard.GuardKind.{GuardKind}
use Rattle.guards.specs.declared.guard.GuardKind.TheVariants as guard
use Rattle.guards.specs.Guarding.{kind_of}
use Rattle.protect.specs.GuardedParts as g
use Rattle.protect.specs.Protected as z
use Rattle.protect.specs.GeneratedNames.{most_returns, most_in_decls, generated_texts}
use Rattle.woven_rules.specs.WovenRules.{IsReady}
use Rattle.woven_rules.proofs.Right.{Rights, front}
use Rattle.woven_rules.proofs.Seen.{OwnNames, own-front, own-back}
use Rattle.woven_rules.proofs.Wider.{IsWider}
use Rattle.woven_rules.proofs.Declares as declares
use Rattle.woven_rules.proofs.Declares.{IsForeign, is-wider, decls-wider, empty-wider}
use Rattle.woven_rules.proofs.Lineages.{decls-built, empty-built}
use Rattle.woven_rules.proofs.Members.{members}
use Rattle.woven_rules.proofs.Tags.{tagged-foreign}
use Rattle.woven_rules.proofs.Keys.{Key, IsKnownKey, Keyed, keys_of, items_of, items-are, all-keyed, every-both}
use Rattle.woven_rules.proofs.Counting.{AreFew, few-front, few-back, items-few, returns-below}
use Rattle.woven_rules.proofs.Texts.{distinct-all, values-known, lock-known, unlock-known}
use Rattle.woven_rules.proofs.Found as found
use Rattle.woven_rules.proofs.World.{Setting, Own, source_of, woven_of, weave, parts_of, added_to, ClassFacts, site, Facts}
use Rattle.woven_rules.proofs.Inherits.{keys-known}
use Rattle.woven_rules.proofs.Assembled.{setting, are-few, are-right, own, each}

-- ---- what is added is foreign

module _ (s : Setting) where
  keyed-foreign : (is : List ItemTree) (ks : List Key) → Keyed s.names is ks → Every (IsKnownKey s.names) ks
      → Every (IsForeign (Own s)) is
  keyed-foreign [] [] keyed known = tt
  keyed-foreign [] (k ∷ ks) keyed known = absurd keyed
  keyed-foreign (i ∷ is) [] keyed known = absurd keyed
  keyed-foreign (tree.label at a ∷ is) (k ∷ ks) keyed known = absurd keyed.0
  keyed-foreign (tree.member m ∷ is) (k ∷ ks) keyed known = (
    (λ j is e. tagged-foreign s.names s.before k.tag k.id known.0.0 j is (e ∙ keyed.0)),
    keyed-foreign is ks
        keyed.1 known.1,
  )
  keyed-foreign (tree.function f ∷ is) (k ∷ ks) keyed known = (
    (λ j is e. tagged-foreign s.names s.before k.tag k.id known.0.0 j is (e ∙ keyed.0)),
    keyed-foreign is ks
        keyed.1 known.1,
  )
  keyed-foreign (tree.ctor c ∷ is) (k ∷ ks) keyed known = absurd keyed.0
  keyed-foreign (tree.dtor c ∷ is) (k ∷ ks) keyed known = absurd keyed.0

  opening-foreign : (at : Place) (shown : Access) → Every (IsForeign (Own s)) (z.opening at shown)
  opening-foreign at access.Public = tt
  opening-foreign at access.Protected = (tt, tt)
  opening-foreign at access.Private = (tt, tt)

  part-foreign : (k : ClassTree) (kind : Option GuardKind) (ms : List Member)
      → (is_some (g.part_with k.name kind ms) ≡ true
      → Every (IsKnownKey s.names) (keys_of s.names (unwrap_or kind guard.Copies) k.name ms))
      → Every (IsForeign (Own s)) (z.added s.names k (g.part_with k.name kind ms))
  part-foreign k None ms known = tt
  part-foreign k (Some kind) [] known = tt
  part-foreign k (Some kind) (m ∷ ms) known =
      every-both (IsForeign (Own s)) (z.opening k.at (z.last_access (d.default_access k.word) k.items)) _
      (opening-foreign k.at (z.last_access (d.default_access k.word) k.items))
      (subst (Every (IsForeign (Own s))) (sym (items-are s.names kind k.name (m ∷ ms)))
      (keyed-foreign (items_of s.names kind k.name (m ∷ ms)) (keys_of s.names kind k.name (m ∷ ms))
      (all-keyed s.names k.name kind (m ∷ ms)) (known refl)))

  adds-foreign : (ds : List DeclTree) → found.OfEach s.before s.names (weave s) (ClassFacts s) ds
      → declares.AddsForeign (Own s) s.names s.before (λ k is. is.1) (parts_of s) (added_to s) ds
  adds-foreign [] facts = tt
  adds-foreign (tree.class k ∷ ds) facts = (
    part-foreign k (kind_of s.guards k.name.item) (members k.items) (λ some. keys-known s k facts.0 some),
    adds-foreign ds facts.1,
  )
  adds-foreign (tree.class_name k ∷ ds) facts = adds-foreign ds facts
  adds-foreign (tree.free_function f ∷ ds) facts = adds-foreign ds facts
  adds-foreign (tree.proto f ∷ ds) facts = adds-foreign ds facts
  adds-foreign (tree.global x ∷ ds) facts = adds-foreign ds facts

  -- ---- both tables say the same of a program

  same-decls : (x : Declared) (ds : List DeclTree) → OwnNames (Own s) (n.names_in_each n.names_in_decl ds)
      → d.with_decls s.names x ds ≡ d.with_decls s.before x ds
  same-decls x [] own = refl
  same-decls x (tree.class k ∷ ds) own =
      same-decls (d.with_class x k) ds (own-back (Own s) (n.names_in_class k) _ own)
  same-decls x (tree.class_name k ∷ ds) own = same-decls (d.passed_over x) ds own
  same-decls x (tree.free_function f ∷ ds) own =
      let name = own-back (Own s) (n.names_in_type f.result) _ (own-front (Own s) (n.names_in_function f) _ own) in
      let one : d.with_function s.names x f ≡ d.with_function s.before x f = ap (λ o. let y : Declared = record x {
        first = with_name x.first f.name.item.0 x.count;
        functions =
            with_name x.functions f.name.item.0
            (d.signature x.numbered f.result.item f.params access.Public (d.is_text_by o (codes "main")));
        numbered = suc x.numbered;
        count = suc x.count;
      } in y) name.0.1 in
      same-decls (d.with_function s.names x f) ds (own-back (Own s) (n.names_in_function f) _ own)
      ∙ ap (λ (y : Declared). d.with_decls s.before y ds) one
  same-decls x (tree.proto f ∷ ds) own = same-decls (d.passed_over x) ds own
  same-decls x (tree.global y ∷ ds) own =
      same-decls (d.with_global x y) ds (own-back (Own s) (n.names_in_global y) _ own)

  -- ---- how many values functions return

  module _ (m : Counts) where
    most-few : (k : ℕ) (ds : List DeclTree) (seen : DeclsSeen) → k ≤ m.returns
        → found.AllFound s.before s.names (weave s) (ClassFacts s) (site s) (woven_of s) seen.classes ds
        → AreFew m (p.forms_of_decls (site s) seen ds) → most_in_decls k ds ≤ m.returns
    most-few k [] seen low all few = low
    most-few k (tree.class c ∷ ds) seen low all few =
        let one = all.0 in
        let here = few-front m (p.forms_of_decl (site s) seen (tree.class c)) _ few in
        let inner = subst (λ o. AreFew m (p.forms_of_class (p.in_class (site s) seen) c o)) one.source_is here.1.1 in
        most-few (most_returns k c.items) ds (programs.next_seen (tree.class c) seen)
        (returns-below k m.returns c.items low
        (items-few m (p.in_class (site s) seen) (refl, refl) c.base (d.class_items one.x c).info classes.none_seen
        c.items inner.1.1)) all.1
        (few-back m (p.forms_of_decl (site s) seen (tree.class c)) _ few)
    most-few k (tree.class_name c ∷ ds) seen low all few =
        most-few k ds (programs.next_seen (tree.class_name c) seen) low all few
    most-few k (tree.free_function f ∷ ds) seen low all few =
        most-few k ds (programs.next_seen (tree.free_function f) seen) low all
        (few-back m (p.forms_of_decl (site s) seen (tree.free_function f)) _ few)
    most-few k (tree.proto f ∷ ds) seen low all few =
        most-few k ds (programs.next_seen (tree.proto f) seen) low all few
    most-few k (tree.global x ∷ ds) seen low all few =
        most-few k ds (programs.next_seen (tree.global x) seen) low all
        (few-back m (p.forms_of_decl (site s) seen (tree.global x)) _ few)

-- ---- all of it

module _ (names : List (List ℕ)) (guards : List Guard) (q : ProgramTree) (ready : IsReady names guards q) where
  abbrev pub s : Setting
  s = setting names guards q

  pub rights : Rights (p.forms_of_decls (site s) programs.none_seen q.decls)
  rights = front (p.forms_of_decls (site s) programs.none_seen q.decls) _ (are-right names q ready.accepted).1

  pub fews : AreFew (most mode.Source) (p.forms_of_decls (site s) programs.none_seen q.decls)
  fews =
      few-front (most mode.Source) (p.forms_of_decls (site s) programs.none_seen q.decls) _
      (are-few names q ready.accepted).1

  pub owned : OwnNames (Own s) (n.names_in_program q)
  owned = own names guards q ready

  all-found : found.AllFound s.before s.names (weave s) (ClassFacts s) (site s) (woven_of s) 0 q.decls
  all-found =
      found.all-found s.before s.names (weave s) (ClassFacts s) (site s) (woven_of s) d.empty d.empty q.decls
      programs.none_seen found.empty-first refl refl refl refl refl rights (each names guards q ready)

  wide : IsWider (Own s) (source_of s) (woven_of s)
  wide =
      is-wider (Own s) (source_of s) (woven_of s)
      (decls-wider (Own s) s.names s.before (λ k is. is.1) (parts_of s) (added_to s) d.empty d.empty
      (empty-wider (Own s) s.names s.before (λ k is. is.1) (parts_of s) (added_to s)) q.decls
      (adds-foreign s q.decls (each names guards q ready)) owned)

  pub most-low : s.most ≤ 200
  most-low = most-few s (most mode.Source) 0 q.decls programs.none_seen (omega arith) all-found fews

  pub facts : Facts s
  facts = record {
    distinct = distinct-all names (generated_texts names guards q) ready.distinct;
    own = owned;
    wide = wide;
    built = decls-built s.before d.empty empty-built q.decls;
    same = same-decls s d.empty q.decls owned;
    found = all-found;
    values = values-known names guards q;
    few = (let low = most-low in omega arith);
    lock = lock-known names guards q;
    unlock = unlock-known names guards q;
  }
