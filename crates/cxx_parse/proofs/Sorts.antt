-- Kinds of declarations and of their parts.
use Rattle.std.proofs.Common.{ℕ, List, [], ◌∷◌, refl}
use Rattle.std.specs.List.{flat_map}
use Rattle.agxx_base.specs.declared.ids.NameId.{NameId}
use Rattle.agxx_base.specs.declared.vocabulary.SpecialName.{SpecialName}
use Rattle.agxx_base.specs.declared.vocabulary.SpecialName.TheVariants as sn
use Rattle.cxx_tree.specs.declared.node.Placed.{Placed}
use Rattle.cxx_tree.specs.declared.program.TypeName.TheVariants as type_of
use Rattle.cxx_tree.specs.declared.program.Access.TheVariants as access_of
use Rattle.cxx_tree.specs.declared.program.ClassWord.TheVariants as class_word_of
use Rattle.cxx_tree.specs.declared.program.Const.{Const}
use Rattle.cxx_tree.specs.declared.program.Const.TheVariants as const_of
use Rattle.cxx_tree.specs.declared.program.Directive.{Directive}
use Rattle.cxx_tree.specs.declared.program.Directive.TheVariants as directive_of
use Rattle.cxx_tree.specs.Words as w
use Rattle.cxx_tree.specs.Words.{in_braces}
use Rattle.cxx_tree.specs.ExprTree.{ExprTree, listed_exprs}
use Rattle.cxx_tree.specs.ExprTree as e
use Rattle.cxx_tree.specs.ProgramTree as p
use Rattle.cxx_tree.specs.ProgramTree.{FunctionTree, InitTree, CtorTree, DtorTree, ItemTree, DeclTree, ProgramTree}
use Rattle.cxx_tree.specs.Limits.{Grammar, Opens, Every}
use Rattle.cxx_tree.specs.Spelling.{spell_name, spell_public_base, spell_directive, spell_const, spell_constant, spell_function, spell_init, spell_inits, spell_ctor, spell_dtor, spell_item, spell_object_arguments, spell_decl, spell_program}
use Rattle.cxx_tree.specs.Fits.{FitsArguments, FitsFunction, FitsCtor, FitsDtor, FitsItem, FitsObjectArguments, FitsDecl, FitsProgram}
use Rattle.cxx_tree.proofs.Larger.{opens-larger, all-larger, arguments-larger, function-larger, item-larger, object_arguments-larger, decl-larger}
use Rattle.cxx_expr.proofs.Names.{default_name}
use Rattle.cxx_stmt.proofs.Sorts.{Kind, always, no_place, empty_block}

-- parts one behind another
abbrev pub sequences : {A : Type 0} → Kind A → Kind (List A)
sequences K = record {
  spelled = flat_map K.spelled;
  Fits = λ m n. Every (K.Fits m n);
  grows = λ m more n deeper le le'. all-larger (K.grows m more n deeper le le');
  least = [];
  is_least = (0, 0, tt);
}

-- ---- parts that fit any limits

abbrev pub consts : Kind Const
consts = always spell_const const_of.Null

-- the bases of classes, with `: public` before them
abbrev pub bases : Kind (Placed NameId)
bases = always spell_public_base default_name

abbrev pub directives : Kind Directive
directives = always spell_directive directive_of.Pragma

module _ (special : SpecialName → ℕ) where
  -- initial values, with the sign before them
  abbrev pub constants : Kind (Placed Const)
  constants = always (spell_constant special) (record { at = no_place; item = const_of.Null })

  -- names with `mutex` before them
  abbrev pub mutex_names : Kind (Placed NameId)
  mutex_names = always (λ n. w.name (special sn.Mutex) ∷ spell_name n) default_name

  module _ (g : Grammar) where
    -- ---- functions, constructors and destructors

    abbrev pub functions : Kind FunctionTree
    functions = record {
      spelled = spell_function special;
      Fits = FitsFunction g;
      grows = λ m more n deeper le le' f v. function-larger g m more le n deeper le' f v;
      least = record { result = record { at = no_place; item = type_of.Int }; name = default_name; params = []; body = empty_block special g };
      is_least = (0, 1, (tt, (0, refl, tt), (0, refl, tt)));
    }

    abbrev pub inits : Kind InitTree
    inits = record {
      spelled = spell_init special;
      Fits = λ m n i. FitsArguments g m n i.arguments;
      grows = λ m more n deeper le le' i v. arguments-larger g m more le n deeper le' i.arguments v;
      least = record { name = default_name; arguments = e.no_exprs };
      is_least = (0, 1, (0, refl, tt));
    }

    -- the initialisers and the colon before them, or nothing
    abbrev pub init_lists : Kind (List InitTree)
    init_lists = record {
      spelled = spell_inits special;
      Fits = λ m n. Every (inits.Fits m n);
      grows = λ m more n deeper le le'. all-larger (inits.grows m more n deeper le le');
      least = [];
      is_least = (0, 0, tt);
    }

    abbrev pub ctors : Kind CtorTree
    ctors = record {
      spelled = spell_ctor special;
      Fits = FitsCtor g;
      grows = λ m more n deeper le le' c v. item-larger g m more le n deeper le' (p.ctor c) v;
      least = record { name = default_name; params = []; inits = []; body = empty_block special g };
      is_least = (0, 1, ((0, refl, tt), tt, (0, refl, tt)));
    }

    abbrev pub dtors : Kind DtorTree
    dtors = record {
      spelled = spell_dtor special;
      Fits = FitsDtor g;
      grows = λ m more n deeper le le' x v. item-larger g m more le n deeper le' (p.dtor x) v;
      least = record { at = no_place; name = default_name; body = empty_block special g };
      is_least = (0, 1, ((0, refl, tt), (0, refl, tt)));
    }

    -- ---- classes

    abbrev pub items : Kind ItemTree
    items = record {
      spelled = spell_item special;
      Fits = FitsItem g;
      grows = λ m more n deeper le le' i v. item-larger g m more le n deeper le' i v;
      least = p.label no_place access_of.Public;
      is_least = (0, 0, tt);
    }

    -- the items of a class with their braces
    abbrev pub item_blocks : Kind (List ItemTree)
    item_blocks = record {
      spelled = λ xs. in_braces (flat_map (spell_item special) xs);
      Fits = λ m n xs. Opens n (λ below. Every (FitsItem g m below) xs);
      grows = λ m more n deeper le le' xs v. opens-larger n deeper le' (λ b c below. all-larger (items.grows m more b c le below) xs) v;
      least = [];
      is_least = (0, 1, (0, refl, tt));
    }

    -- ---- declarations and programs

    -- the arguments of an object with their parentheses, or nothing
    abbrev pub object_arguments : Kind (List ExprTree)
    object_arguments = record {
      spelled = λ xs. spell_object_arguments special (listed_exprs xs);
      Fits = λ m n xs. FitsObjectArguments g m n (listed_exprs xs);
      grows = λ m more n deeper le le' xs v. object_arguments-larger g m more le n deeper le' (listed_exprs xs) v;
      least = [];
      is_least = (0, 0, tt);
    }

    abbrev pub decls : Kind DeclTree
    decls = record {
      spelled = spell_decl special;
      Fits = FitsDecl g;
      grows = λ m more n deeper le le' q v. decl-larger g m more le n deeper le' q v;
      least = p.class_name (record { at = no_place; word = class_word_of.Class; name = default_name });
      is_least = (0, 0, tt);
    }

    -- programs of the grammar within the limits
    abbrev pub programs_within : Kind ProgramTree
    programs_within = record {
      spelled = spell_program special;
      Fits = λ m n q. FitsProgram g (record { nesting = n; operators = m }) q;
      grows = λ m more n deeper le le' q v. all-larger (decls.grows m more n deeper le le') q.decls v;
      least = record { at = no_place; directives = []; decls = [] };
      is_least = (0, 0, tt);
    }
