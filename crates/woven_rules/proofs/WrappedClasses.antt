-- The items of a class, once their bodies are wrapped.
use Rattle.std.proofs.Common.{◌≡◌, ◌≢◌, inl, inr, refl, sym, ◌∙◌, subst, ℕ, ◌≤◌, ◌<◌, Bool, List, [], ◌∷◌, ◌++◌, map, reverse, Option, None}
use Rattle.agxx_base.specs.declared.ids.NameId.{NameId}
use Rattle.cxx_tree.specs.declared.node.Placed.{Placed}
use Rattle.cxx_tree.specs.declared.program.Param.{Param}
use Rattle.cxx_tree.specs.declared.program.TypeName.TheVariants as type_name
use Rattle.cxx_tree.specs.Limits.{Every}
use Rattle.cxx_tree.specs.Fits.{IsPlainType}
use Rattle.cxx_tree.specs.ProgramTree as tree
use Rattle.cxx_tree.specs.ProgramTree.{FunctionTree, CtorTree, DtorTree, ItemTree}
use Rattle.cxx_names.specs.declared.declarations.ClassInfo.{ClassInfo}
use Rattle.cxx_names.specs.declared.declarations.Declared.{Declared}
use Rattle.cxx_names.specs.declared.types.Thing.{Thing}
use Rattle.cxx_names.specs.Declarations.{class_named}
use Rattle.cxx_names.specs.LookUp.{thing_of}
use Rattle.cxx_names.specs.Tables.{with_name}
use Rattle.cxx_distinct.specs.NamesIn as n
use Rattle.cxx_types.specs.declared.classes.ItemsSeen.{ItemsSeen}
use Rattle.cxx_types.specs.declared.context.Context.{Context}
use Rattle.cxx_types.specs.declared.context.Owner.TheVariants as owner
use Rattle.cxx_types.specs.Classes as c
use Rattle.cxx_rules.specs.Forms as form
use Rattle.cxx_rules.specs.ProgramForms as p
use Rattle.entry_count.specs.PartCode.{enter, leave}
use Rattle.entry_count.specs.Wrapping as w
use Rattle.protect.specs.Protected as z
use Rattle.protect.specs.GeneratedNames.{returns_of}
use Rattle.woven_rules.specs.WovenRules.{HasPlainType}
use Rattle.woven_rules.proofs.Tables.{named-other}
use Rattle.woven_rules.proofs.Right.{Rights, front, back, joined}
use Rattle.woven_rules.proofs.Wider.{IsWiderClass}
use Rattle.woven_rules.proofs.Seen.{OwnNames, own-front, own-back, Both, source, woven}
use Rattle.woven_rules.proofs.MovedStatements.{result-type-right, apart-right, counted-right}
use Rattle.woven_rules.proofs.MappedRight.{IsFresh}
use Rattle.woven_rules.proofs.Calls.{IsProcedure}
use Rattle.woven_rules.proofs.WrappedRight.{value_at, IsGood, known-pointed, body-right, same-body-right}
use Rattle.woven_rules.proofs.MovedClasses.{with_params, params-right, lifecycle-right, item-name-right, without-right, inits-right, initialises-same, member-right}

-- what was seen of a class's items after these
abbrev pub seen_after : ItemsSeen → List ItemTree → ItemsSeen
seen_after seen [] = seen
seen_after seen (i ∷ is) = seen_after (c.next_seen i seen) is

module _ (Own : ℕ → Type 0) (most : ℕ) (names : List (List ℕ))
    (foreign : (i j : ℕ) → i < most → Own j → (value_at names i).0 ≢ j)
    (differ : (i j : ℕ) → i < most → j < most → i ≢ j → (value_at names i).0 ≢ (value_at names j).0) where
  fresh-params : (d : Declared) (t : List (ℕ × Thing)) (qs : List Param) → OwnNames Own (n.names_in_params qs)
      → IsFresh Own most (value_at names) 0 t → IsFresh Own most (value_at names) 0 (p.scope_with d t qs)
  fresh-params d t [] own fresh = fresh
  fresh-params d t (q ∷ qs) own fresh =
      let name =
      own-back Own (n.names_in_type q.type_name) _
      (own-front Own (n.names_in_type q.type_name ++ q.name ∷ []) _ own) in
      fresh-params d (with_name t q.name.item.0 (thing_of d q.type_name.item)) qs
      (own-back Own (n.names_in_type q.type_name ++ q.name ∷ []) _ own)
      (λ i above below. named-other t q.name.item.0 (thing_of d q.type_name.item) (value_at names i).0
      (foreign i q.name.item.0 below name.0) ∙ fresh i above below)

  -- a function whose body stays as it is
  pub same-function-right : (b : Both Own) (g : FunctionTree) → OwnNames Own (n.names_in_function g)
      → Rights (p.forms_of_function (source Own b) g) → Rights (p.forms_of_function (woven Own b) g)
  same-function-right b g own h =
      let names1 = own-back Own (n.names_in_type g.result) _ own in
      let own1 = own-front Own (n.names_in_params g.params) _ names1.1 in
      let own2 = own-back Own (n.names_in_params g.params) _ names1.1 in
      let inner = with_params Own b g.params in (
        result-type-right Own b g.result h.0,
        joined (p.forms_of_params (woven Own b) 0 g.params) _
            (params-right Own b 0 g.params own1 (front (p.forms_of_params (source Own b) 0 g.params) _ h.1))
            (same-body-right Own inner g.body own2 (back (p.forms_of_params (source Own b) 0 g.params) _ h.1)),
      )

  module _ (parts : List NameId) where
    -- where bodies of functions of a class are wrapped
    pub record IsInside (z : Declared) (context : Context) : Type 0 where
      pub enters : Every (λ (class : NameId). IsProcedure z context.class (enter names class)) parts
      pub leaves : Every (λ (class : NameId). IsProcedure z context.class (leave names class)) (reverse parts)
      pub classes : (i : ℕ) → i < most → class_named z (value_at names i).0 ≡ None

    function-right : (b : Both Own) → IsInside b.z b.context → IsFresh Own most (value_at names) 0 b.t
        → (g : FunctionTree) → b.context.owner ≡ owner.Function g.result.item → IsPlainType g.result.item
        → w.returns_in_block g.body ≤ most
        → OwnNames Own (n.names_in_function g) → Rights (p.forms_of_function (source Own b) g)
        → Rights (p.forms_of_function (woven Own b) (z.wrapped_function names parts g))
    function-right b inside fresh g is plain few own h =
        let names1 = own-back Own (n.names_in_type g.result) _ own in
        let own1 = own-front Own (n.names_in_params g.params) _ names1.1 in
        let own2 = own-back Own (n.names_in_params g.params) _ names1.1 in
        let result = result-type-right Own b g.result h.0 in
        let inner = with_params Own b g.params in
        let good : IsGood Own most names g.result.item plain parts foreign differ b.d b.z b.context =
        record {
          owner = inl is;
          known = known-pointed (woven Own b) g.result g.result.item result.0;
          enters =
              inside.enters;
          leaves = inside.leaves;
          classes = inside.classes;
        } in (
          result,
          joined (p.forms_of_params (woven Own b) 0 g.params) _
              (params-right Own b 0 g.params own1 (front (p.forms_of_params (source Own b) 0 g.params) _ h.1))
              (body-right Own most names g.result.item plain foreign differ parts inner good
              (fresh-params b.z b.t g.params own1 fresh) g.body few own2
              (back (p.forms_of_params (source Own b) 0 g.params) _ h.1)),
        )

    -- in a constructor or destructor
    lifecycle-good : (b : Both Own) → IsInside b.z b.context → b.context.owner ≡ owner.Lifecycle
        → IsGood Own most names type_name.Void tt parts foreign differ b.d b.z b.context
    lifecycle-good b inside is =
        record {
          owner = inr is;
          known = tt;
          enters = inside.enters;
          leaves = inside.leaves;
          classes = inside.classes;
        }

    module _ (x y : ClassInfo) (wide : IsWiderClass Own x y) (base : Option (Placed NameId)) where
      ctor-right : (b : Both Own) → IsInside b.z b.context → IsFresh Own most (value_at names) 0 b.t
          → b.context.owner ≡ owner.Lifecycle → (is_second : Bool) (k : CtorTree) → w.returns_in_block k.body ≤ most
          → OwnNames Own (n.names_in_ctor k) → Rights (p.forms_of_ctor (source Own b) base x is_second k)
          → Rights (p.forms_of_ctor (woven Own b) base y is_second (z.wrapped_ctor names parts k))
      ctor-right b inside fresh is is_second k few own h =
          let own1 = own-front Own (n.names_in_params k.params) _ own.1 in
          let rest1 = own-back Own (n.names_in_params k.params) _ own.1 in
          let own2 = own-front Own (n.names_in_each n.names_in_init k.inits) _ rest1 in
          let own3 = own-back Own (n.names_in_each n.names_in_init k.inits) _ rest1 in
          let inner = with_params Own b k.params in
          let a = c.initialises_base base x k.inits in
          let h1 = front (p.forms_of_params (source Own b) 0 k.params) _ h.1.1 in
          let rest2 = back (p.forms_of_params (source Own b) 0 k.params) _ h.1.1 in
          let h2 = front (p.forms_without (source Own inner) x k.name a) _ rest2 in
          let rest3 = back (p.forms_without (source Own inner) x k.name a) _ rest2 in
          let h3 = front (p.forms_of_inits (source Own inner) base x [] k.inits) _ rest3 in
          let h4 = back (p.forms_of_inits (source Own inner) base x [] k.inits) _ rest3 in (
            h.0,
            (
              lifecycle-right Own inner x y wide k.name h.1.0,
              joined (p.forms_of_params (woven Own b) 0 k.params) _ (params-right Own b 0 k.params own1 h1)
                  (joined (p.forms_without (woven Own inner) y k.name (c.initialises_base base y k.inits)) _
                  (subst (λ u. Rights (p.forms_without (woven Own inner) y k.name u))
                  (sym (initialises-same Own inner x y wide base k.inits))
                  (without-right Own inner x y wide k.name a h2))
                  (joined (p.forms_of_inits (woven Own inner) base y [] k.inits) _
                  (inits-right Own inner x y wide base [] k.inits own2 h3)
                  (body-right Own most names type_name.Void tt foreign differ parts inner (lifecycle-good b inside is)
                  (fresh-params b.z b.t k.params own1 fresh) k.body few own3 h4))),
            ),
          )

      dtor-right : (b : Both Own) → IsInside b.z b.context → IsFresh Own most (value_at names) 0 b.t
          → b.context.owner ≡ owner.Lifecycle → (is_second : Bool) (k : DtorTree) → w.returns_in_block k.body ≤ most
          → OwnNames Own (n.names_in_item (tree.dtor k)) → Rights (p.forms_of_dtor (source Own b) x is_second k)
          → Rights (p.forms_of_dtor (woven Own b) y is_second (z.wrapped_dtor names parts k))
      dtor-right b inside fresh is is_second k few own h = (
        h.0,
        (
          lifecycle-right Own b x y wide k.name h.1.0,
          body-right Own most names type_name.Void tt foreign differ parts b (lifecycle-good b inside is) fresh k.body
              few own.1 h.1.1,
        ),
      )

      item-right : (b : Both Own) → IsInside b.z b.context → IsFresh Own most (value_at names) 0 b.t
          → (seen : ItemsSeen) (i : ItemTree) → HasPlainType i → returns_of i ≤ most
          → OwnNames Own (n.names_in_item i) → Rights (p.forms_of_item (source Own b) base x seen i)
          → Rights (p.forms_of_item (woven Own b) base y seen (z.wrapped_item names parts i))
      item-right b inside fresh seen (tree.label at a) plain few own h = tt
      item-right b inside fresh seen (tree.member m) plain few own h = member-right Own b x y wide seen m own h
      item-right b inside fresh seen (tree.function g) plain few own h =
          let inner : Both Own = record b { context = record b.context { owner = owner.Function g.result.item } } in
          let name = own-back Own (n.names_in_type g.result) _ own in (
            counted-right Own b form.methods seen.methods g.name.at,
            (
              item-name-right Own b x y wide seen.index g.name name.0 h.1.0,
              (
                apart-right Own b g.name h.1.1.0,
                function-right inner
                    (record { enters = inside.enters; leaves = inside.leaves; classes = inside.classes }) fresh g refl
                    plain few own h.1.1.1,
              ),
            ),
          )
      item-right b inside fresh seen (tree.ctor k) plain few own h =
          ctor-right (record b { context = record b.context { owner = owner.Lifecycle } })
          (record { enters = inside.enters; leaves = inside.leaves; classes = inside.classes }) fresh refl
          seen.has_ctor k few own h
      item-right b inside fresh seen (tree.dtor k) plain few own h =
          dtor-right (record b { context = record b.context { owner = owner.Lifecycle } })
          (record { enters = inside.enters; leaves = inside.leaves; classes = inside.classes }) fresh refl
          seen.has_dtor k few own h

      next-same : (i : ItemTree) (seen : ItemsSeen)
          → c.next_seen (z.wrapped_item names parts i) seen ≡ c.next_seen i seen
      next-same (tree.label at a) seen = refl
      next-same (tree.member m) seen = refl
      next-same (tree.function g) seen = refl
      next-same (tree.ctor k) seen = refl
      next-same (tree.dtor k) seen = refl

      -- items, and others behind them
      pub items-right : (b : Both Own) → IsInside b.z b.context → IsFresh Own most (value_at names) 0 b.t
          → (seen : ItemsSeen) (is : List ItemTree) → Every HasPlainType is → Every (λ i. returns_of i ≤ most) is
          → OwnNames Own (n.names_in_each n.names_in_item is)
          → Rights (p.forms_of_items (source Own b) base x seen is)
          → (others : List ItemTree) → Rights (p.forms_of_items (woven Own b) base y (seen_after seen is) others)
          → Rights (p.forms_of_items (woven Own b) base y seen (map (z.wrapped_item names parts) is ++ others))
      items-right b inside fresh seen [] plain few own h others last = last
      items-right b inside fresh seen (i ∷ is) plain few own h others last =
          joined (p.forms_of_item (woven Own b) base y seen (z.wrapped_item names parts i)) _
          (item-right b inside fresh seen i plain.0 few.0 (own-front Own (n.names_in_item i) _ own)
          (front (p.forms_of_item (source Own b) base x seen i) _ h))
          (subst (λ u. Rights (p.forms_of_items (woven Own b) base y u
          (map (z.wrapped_item names parts) is ++ others))) (sym (next-same i seen))
          (items-right b inside fresh (c.next_seen i seen) is plain.1 few.1 (own-back Own (n.names_in_item i) _ own)
          (back (p.forms_of_item (source Own b) base x seen i) _ h) others last))
