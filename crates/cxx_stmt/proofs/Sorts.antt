-- Kinds of parts: a sort for each pair of limits, with larger limits for more parts, and a small part of each kind.
use Rattle.std.proofs.Common.{true, ◌≡◌, ℕ, suc, ◌≤◌, List, [], ◌∷◌, ◌++◌, map, Option, None, refl, arith}
use Rattle.std.specs.List.{flat_map}
use Rattle.agxx_base.specs.declared.vocabulary.Sign.{Sign}
use Rattle.agxx_base.specs.declared.vocabulary.Sign.TheVariants as sg
use Rattle.agxx_base.specs.declared.place.Place.{Place}
use Rattle.agxx_base.specs.declared.ids.NameId.{NameId}
use Rattle.agxx_base.specs.declared.vocabulary.SpecialName.{SpecialName}
use Rattle.cxx_tree.specs.declared.node.Placed.{Placed}
use Rattle.cxx_tree.specs.declared.expr.Ref.{Ref}
use Rattle.cxx_tree.specs.declared.expr.Left.TheVariants as left_of
use Rattle.cxx_tree.specs.declared.expr.Callee.{Callee}
use Rattle.cxx_tree.specs.declared.expr.Callee.TheVariants as callee_of
use Rattle.cxx_tree.specs.declared.program.TypeName.{TypeName}
use Rattle.cxx_tree.specs.declared.program.TypeName.TheVariants as type_of
use Rattle.cxx_tree.specs.declared.program.Param.{Param}
use Rattle.cxx_tree.specs.ExprTree.{ExprTree, listed_exprs}
use Rattle.cxx_tree.specs.StmtTree as s
use Rattle.cxx_tree.specs.StmtTree.{InitialTree, LocalTree, SimpleTree, StartTree, StmtTree, BlockTree, IfTree, ElseTree}
use Rattle.cxx_tree.specs.Words as w
use Rattle.cxx_tree.specs.Words.{Word, separated, each_after_comma, in_parentheses, ended, optional}
use Rattle.cxx_tree.specs.Limits.{Grammar, Opens, Every}
use Rattle.cxx_tree.specs.Spelling.{spell_name, spell_ref, spell_callee, spell_type, spell_param, spell_expr, spell_arguments, spell_initial, spell_local, spell_simple, spell_start, spell_stmt, spell_block, spell_if, spell_else}
use Rattle.cxx_tree.specs.Fits.{Optionally, IsPlainType, expr_level, FitsFull, FitsArguments, FitsLocal, FitsSimple, FitsStart, FitsStmt, FitsBlock, FitsIf, FitsElse}
use Rattle.cxx_tree.proofs.Larger.{opens-larger, all-larger, optionally-larger, full-larger, arguments-larger, local-larger, simple-larger, start-larger, stmt-larger, block-larger, if-larger, else-larger}
use Rattle.cxx_expr.proofs.Good.{Sort}
use Rattle.cxx_expr.proofs.Names.{default_name, default_ref}
use Rattle.cxx_expr.proofs.Sorts.{default}
use Rattle.cxx_stmt.specs.Statements.{ForHead}

-- The first limit is how many operators a full expression may have, the second how deep a part may nest.
pub record Kind (A : Type 0) : Type 1 where
  pub spelled : A → List Word
  pub Fits : ℕ → ℕ → A → Type 0
  pub grows : (m more n deeper : ℕ) → m ≤ more → n ≤ deeper → (a : A) → Fits m n a → Fits more deeper a
  pub least : A
  pub is_least : (m : ℕ) × (n : ℕ) × Fits m n least

-- those within these limits
abbrev pub sort : {A : Type 0} → Kind A → ℕ → ℕ → Sort A
sort K most depth = record { spelled = K.spelled; IsOne = K.Fits most depth; IsSome = λ a. (m : ℕ) × (n : ℕ) × K.Fits m n a; is_some = λ a v. (most, depth, v) }

-- some spelling of the kind begins so
abbrev pub Begins : {A : Type 0} → Kind A → List Word → Type 0
Begins K front = (a : _) × (more : List Word) × ((m : ℕ) × (n : ℕ) × K.Fits m n a) × (K.spelled a ≡ front ++ more)

-- parts that fit any limits
abbrev pub always : {A : Type 0} → (A → List Word) → A → Kind A
always spelled least = record { spelled = spelled; Fits = λ m n a. Unit {0}; grows = λ m more n deeper le le' a v. tt; least = least; is_least = (0, 0, tt) }

-- a sign
abbrev pub signs : Sign → Kind (Unit {0})
signs s = always (λ u. w.sign s ∷ []) tt

-- nothing
abbrev pub nothing : Kind (Unit {0})
nothing = always (λ u. []) tt

-- in parentheses
abbrev pub parens : {A : Type 0} → Kind A → Kind A
parens K = record {
  spelled = λ a. in_parentheses (K.spelled a);
  Fits = λ m n a. Opens n (λ below. K.Fits m below a);
  grows = λ m more n deeper le le' a v. opens-larger n deeper le' (λ b c below. K.grows m more b c le below a) v;
  least = K.least;
  is_least = (K.is_least.0, suc K.is_least.1, (K.is_least.1, refl, K.is_least.2));
}

-- a part that may be missing
abbrev pub maybe : {A : Type 0} → Kind A → Kind (Option A)
maybe K = record {
  spelled = optional K.spelled;
  Fits = λ m n. Optionally (K.Fits m n);
  grows = λ m more n deeper le le'. optionally-larger (K.grows m more n deeper le le');
  least = None;
  is_least = (0, 0, tt);
}

-- ---- lists

abbrev pub Some_hold : {A : Type 0} → (A → Type 0) → List A → Type 0
Some_hold Holds [] = ⊥
Some_hold Holds (first ∷ rest) = Holds first × Every Holds rest

pub some-every : {A : Type 0} (Holds : A → Type 0) (xs : List A) → Some_hold Holds xs → Every Holds xs
some-every Holds [] h = tt
some-every Holds (x ∷ xs) h = h

pub some-larger : {A : Type 0} {P Q : A → Type 0} → ((x : A) → P x → Q x) → (xs : List A) → Some_hold P xs → Some_hold Q xs
some-larger each [] h = h
some-larger each (x ∷ xs) h = (each x h.0, all-larger each xs h.1)

-- lists with commas between, which may be empty
abbrev pub lists : {A : Type 0} → Kind A → Kind (List A)
lists K = record {
  spelled = λ xs. separated (map K.spelled xs);
  Fits = λ m n. Every (K.Fits m n);
  grows = λ m more n deeper le le'. all-larger (K.grows m more n deeper le le');
  least = [];
  is_least = (0, 0, tt);
}

-- those that aren't
abbrev pub somes : {A : Type 0} → Kind A → Kind (List A)
somes K = record {
  spelled = λ xs. separated (map K.spelled xs);
  Fits = λ m n. Some_hold (K.Fits m n);
  grows = λ m more n deeper le le'. some-larger (K.grows m more n deeper le le');
  least = K.least ∷ [];
  is_least = (K.is_least.0, K.is_least.1, (K.is_least.2, tt));
}

-- the parts behind one
abbrev pub tails : {A : Type 0} → Kind A → Kind (List A)
tails K = record {
  spelled = λ xs. each_after_comma (map K.spelled xs);
  Fits = λ m n. Every (K.Fits m n);
  grows = λ m more n deeper le le'. all-larger (K.grows m more n deeper le le');
  least = [];
  is_least = (0, 0, tt);
}

-- parts up to the brace that ends them
abbrev pub blocks_of : {A : Type 0} → Kind A → Kind (List A)
blocks_of K = record {
  spelled = λ xs. flat_map K.spelled xs ++ w.sign sg.CloseBrace ∷ [];
  Fits = λ m n. Every (K.Fits m n);
  grows = λ m more n deeper le le'. all-larger (K.grows m more n deeper le le');
  least = [];
  is_least = (0, 0, tt);
}

-- ---- names, types, parameters

abbrev pub names : Kind (Placed NameId)
names = always spell_name default_name

abbrev pub refs : Kind Ref
refs = always spell_ref default_ref

abbrev pub callees : Kind Callee
callees = always spell_callee (callee_of.Bare default_ref)

abbrev pub no_place : Place
no_place = record { file = 0; line = 0; column = 0 }

module _ (special : SpecialName → ℕ) where
  -- types, but that of a mutex
  abbrev pub types : Kind (Placed TypeName)
  types = record {
    spelled = λ t. spell_type special t.item;
    Fits = λ m n t. IsPlainType t.item;
    grows = λ m more n deeper le le' t v. v;
    least = record { at = no_place; item = type_of.Int };
    is_least = (0, 0, tt);
  }

  abbrev pub param : Kind Param
  param = record {
    spelled = spell_param special;
    Fits = λ m n q. IsPlainType q.type_name.item;
    grows = λ m more n deeper le le' q v. v;
    least = record { type_name = record { at = no_place; item = type_of.Int }; name = default_name };
    is_least = (0, 0, tt);
  }

  -- parameters with their parentheses
  abbrev pub params : Kind (List Param)
  params = parens (lists param)

  module _ (g : Grammar) where
    -- ---- expressions

    -- full expressions of operators up to this level
    abbrev pub fulls : ℕ → Kind ExprTree
    fulls l = record {
      spelled = spell_expr special;
      Fits = λ m n t. FitsFull g m n l t;
      grows = λ m more n deeper le le' t v. full-larger g m more le n deeper le' l t v;
      least = default;
      is_least = (0, 0, (tt, omega arith));
    }

    -- arguments that are each a full expression, with their parentheses
    abbrev pub arguments : Kind (List ExprTree)
    arguments = record {
      spelled = λ xs. spell_arguments special (listed_exprs xs);
      Fits = λ m n xs. FitsArguments g m n (listed_exprs xs);
      grows = λ m more n deeper le le' xs v. arguments-larger g m more le n deeper le' (listed_exprs xs) v;
      least = [];
      is_least = (0, 1, (0, refl, tt));
    }

    -- ---- locals and simple statements

    abbrev pub placed_callees : Kind (Placed Callee)
    placed_callees = always (λ c. spell_callee c.item) (record { at = no_place; item = callee_of.Bare default_ref })

    abbrev pub initials : Kind InitialTree
    initials = record {
      spelled = spell_initial special;
      Fits = λ m n i. FitsFull g m n expr_level i.value;
      grows = λ m more n deeper le le' i v. full-larger g m more le n deeper le' expr_level i.value v;
      least = record { sign = no_place; value = default };
      is_least = (0, 0, (tt, omega arith));
    }

    abbrev pub locals : Kind LocalTree
    locals = record {
      spelled = spell_local special;
      Fits = FitsLocal g;
      grows = λ m more n deeper le le' l v. local-larger g m more le n deeper le' l v;
      least = record { type_name = record { at = no_place; item = type_of.Int }; name = default_name; initial = None };
      is_least = (0, 0, (tt, tt));
    }

    abbrev pub simples : Kind SimpleTree
    simples = record {
      spelled = spell_simple special;
      Fits = FitsSimple g;
      grows = λ m more n deeper le le' i v. simple-larger g m more le n deeper le' i v;
      least = s.bump (record { left = left_of.Name default_ref; sign = no_place; adds = true; in_front = true });
      is_least = (0, 0, tt);
    }

    abbrev pub starts : Kind StartTree
    starts = record {
      spelled = spell_start special;
      Fits = FitsStart g;
      grows = λ m more n deeper le le' t v. start-larger g m more le n deeper le' t v;
      least = s.start_simple simples.least;
      is_least = (0, 0, tt);
    }

    -- ---- statements

    abbrev pub empty_block : BlockTree
    empty_block = s.braces no_place s.no_stmts

    abbrev pub stmts : Kind StmtTree
    stmts = record {
      spelled = spell_stmt special;
      Fits = FitsStmt g;
      grows = λ m more n deeper le le' t v. stmt-larger g m more le n deeper le' t v;
      least = s.block empty_block;
      is_least = (0, 1, (0, refl, tt));
    }

    abbrev pub blocks : Kind BlockTree
    blocks = record {
      spelled = spell_block special;
      Fits = FitsBlock g;
      grows = λ m more n deeper le le' b v. block-larger g m more le n deeper le' b v;
      least = empty_block;
      is_least = (0, 1, (0, refl, tt));
    }

    abbrev pub ifs : Kind IfTree
    ifs = record {
      spelled = spell_if special;
      Fits = FitsIf g;
      grows = λ m more n deeper le le' i v. if-larger g m more le n deeper le' i v;
      least = s.chooses no_place default empty_block s.no_else;
      is_least = (0, 1, ((0, refl, (tt, omega arith)), (0, refl, tt), tt));
    }

    abbrev pub elses : Kind ElseTree
    elses = record {
      spelled = spell_else special;
      Fits = FitsElse g;
      grows = λ m more n deeper le le' t v. else-larger g m more le n deeper le' t v;
      least = s.no_else;
      is_least = (0, 0, tt);
    }

    -- what stands in the parentheses of a `for`
    abbrev pub heads : Kind ForHead
    heads = record {
      spelled = λ h. ended (optional (spell_start special) h.0) ++ (ended (optional (spell_expr special) h.1.0) ++ optional (spell_simple special) h.1.1);
      Fits = λ m n h. Optionally (FitsStart g m n) h.0 × Optionally (FitsFull g m n expr_level) h.1.0 × Optionally (FitsSimple g m n) h.1.1;
      grows = λ m more n deeper le le' h v. (
        (maybe starts).grows m more n deeper le le' h.0 v.0,
        (maybe (fulls expr_level)).grows m more n deeper le le' h.1.0 v.1,
        (maybe simples).grows m more n deeper le le' h.1.1 v.2,
      );
      least = (None, (None, None));
      is_least = (0, 0, (tt, tt, tt));
    }
