-- The words of declarations and programs are their spelling.
use Rattle.std.proofs.Common.{◌≡◌, true, false, ℕ, List, [], ◌∷◌, ◌++◌, Option, Some, None, map, refl, sym, ap, ◌∙◌, append_assoc, append-nil}
use Rattle.std.specs.List.{flat_map}
use Rattle.agxx_base.specs.declared.ids.NameId.{NameId}
use Rattle.agxx_base.specs.declared.vocabulary.Keyword.TheVariants as k
use Rattle.agxx_base.specs.declared.vocabulary.Sign.TheVariants as sg
use Rattle.agxx_base.specs.declared.vocabulary.SpecialName.{SpecialName}
use Rattle.cxx_tree.specs.declared.node.Placed.{Placed}
use Rattle.cxx_tree.specs.declared.program.ClassWord.{ClassWord}
use Rattle.cxx_tree.specs.declared.program.ClassWord.TheVariants as class_word_of
use Rattle.cxx_tree.specs.declared.program.Access.{Access}
use Rattle.cxx_tree.specs.declared.program.Access.TheVariants as access_of
use Rattle.cxx_tree.specs.declared.program.Directive.{Directive}
use Rattle.cxx_tree.specs.declared.program.Directive.TheVariants as directive_of
use Rattle.cxx_tree.specs.declared.program.Const.{Const}
use Rattle.cxx_tree.specs.declared.program.Const.TheVariants as const_of
use Rattle.cxx_tree.specs.declared.program.Param.{Param}
use Rattle.cxx_tree.specs.declared.program.Proto.{Proto}
use Rattle.cxx_tree.specs.declared.program.ClassName.{ClassName}
use Rattle.cxx_tree.specs.declared.program.Variable.{Variable}
use Rattle.cxx_tree.specs.Words as w
use Rattle.cxx_tree.specs.Words.{Word}
use Rattle.cxx_tree.specs.Spelling.{spell_name, spell_class_word, spell_label, spell_public_base, spell_directive, spell_const, spell_param, spell_function, spell_proto, spell_init, spell_inits, spell_ctor, spell_dtor, spell_item, spell_class, spell_class_name, spell_constant, spell_variable, spell_object_arguments, spell_object, spell_global, spell_decl}
use Rattle.cxx_tree.specs.ExprTree as e
use Rattle.cxx_tree.specs.ProgramTree as p
use Rattle.cxx_print.specs.Statements.{optional}
use Rattle.cxx_print.specs.Programs as f
use Rattle.print_laws.specs.Spelled.{TextsAreSpelled}
use Rattle.print_laws.proofs.Documents.{words, words-before, words-line, words-optional}
use Rattle.print_laws.proofs.Expressions.{typed-is, flag-is, arguments-is}
use Rattle.print_laws.proofs.Statements.{block-is}

-- ---- lists

-- what stands in braces, behind other words, and the semicolon behind it
braced : (front inner : List Word) → (front ++ w.in_braces inner) ++ w.sign sg.Semicolon ∷ []
    ≡ front ++ (w.sign sg.OpenBrace ∷ (inner ++ (w.sign sg.CloseBrace ∷ w.sign sg.Semicolon ∷ [])))
braced front inner =
    append_assoc front (w.in_braces inner) (w.sign sg.Semicolon ∷ [])
    ∙ ap (λ z. front ++ (w.sign sg.OpenBrace ∷ z)) (append_assoc inner (w.sign sg.CloseBrace ∷ []) (w.sign sg.Semicolon ∷ []))

module _ (number : SpecialName → ℕ) where
  -- ---- parameters and functions

  param-is : (q : Param) → words number (f.param q) ≡ spell_param number q
  param-is q = typed-is number q.type_name q.name

  params-after : (qs : List Param) → words number (f.params_after_commas qs) ≡ w.each_after_comma (map (spell_param number) qs)
  params-after [] = refl
  params-after (q ∷ qs) = rw (param-is q, params-after qs) refl

  params-separated : (qs : List Param) → words number (f.separated_params qs) ≡ w.separated (map (spell_param number) qs)
  params-separated [] = refl
  params-separated (q ∷ qs) = rw (param-is q, params-after qs) refl

  function-is : (level : ℕ) (g : p.FunctionTree) → words number (f.function level g) ≡ spell_function number g
  function-is level g = rw (typed-is number g.result g.name, params-separated g.params, block-is number level g.body) refl

  proto-is : (g : Proto) → words number (f.proto g) ≡ spell_proto number g
  proto-is g = rw (typed-is number g.result g.name, params-separated g.params) refl

  -- ---- constructors and destructors

  init-is : (i : p.InitTree) → words number (f.init i) ≡ spell_init number i
  init-is i = ap (λ z. w.name i.name.item.0 ∷ z) (arguments-is number i.arguments)

  inits-after : (is : List p.InitTree) → words number (f.inits_after_commas is) ≡ w.each_after_comma (map (spell_init number) is)
  inits-after [] = refl
  inits-after (i ∷ is) = λ j. w.sign sg.Comma ∷ (init-is i j ++ inits-after is j)

  inits-is : (is : List p.InitTree) → words number (f.inits is) ≡ spell_inits number is
  inits-is [] = refl
  inits-is (i ∷ is) = λ j. w.sign sg.Colon ∷ (init-is i j ++ inits-after is j)

  ctor-is : (level : ℕ) (c : p.CtorTree) → words number (f.ctor level c) ≡ spell_ctor number c
  ctor-is level c = rw (params-separated c.params, inits-is c.inits, block-is number level c.body) refl

  dtor-is : (level : ℕ) (d : p.DtorTree) → words number (f.dtor level d) ≡ spell_dtor number d
  dtor-is level d = rw (block-is number level d.body) refl

  -- ---- classes

  label-is : (it : Access) → words number (f.label it) ≡ spell_label it
  label-is access_of.Public = refl
  label-is access_of.Protected = refl
  label-is access_of.Private = refl

  item-is : (i : p.ItemTree) → words number (f.item i) ≡ spell_item number i
  item-is (p.label at it) = label-is it
  item-is (p.member m) = ap w.ended (typed-is number m.type_name m.name)
  item-is (p.function g) = function-is 1 g
  item-is (p.ctor c) = ctor-is 1 c
  item-is (p.dtor d) = dtor-is 1 d

  items-is : (is : List p.ItemTree) → words number (f.items is) ≡ flat_map (spell_item number) is
  items-is [] = refl
  items-is (i ∷ is) = λ j. (words-line number (f.item_level i) (f.item i) ∙ item-is i) j ++ items-is is j

  base-is : (b : Option (Placed NameId)) → words number (optional f.public_base b) ≡ w.optional spell_public_base b
  base-is None = refl
  base-is (Some b) = refl

  class-body : (n : Placed NameId) (b : Option (Placed NameId)) (is : List p.ItemTree) (it : ClassWord)
      → words number (f.class_head it n) ++ (w.optional spell_public_base b ++ (w.sign sg.OpenBrace ∷ (flat_map (spell_item number) is ++ (w.sign sg.CloseBrace ∷ w.sign sg.Semicolon ∷ []))))
      ≡ w.ended (spell_class_word it ++ (spell_name n ++ (w.optional spell_public_base b ++ w.in_braces (flat_map (spell_item number) is))))
  class-body n b is class_word_of.Class =
      ap (λ z. w.keyword k.Class ∷ w.name n.item.0 ∷ z) (sym (braced (w.optional spell_public_base b) (flat_map (spell_item number) is)))
  class-body n b is class_word_of.Struct =
      ap (λ z. w.keyword k.Struct ∷ w.name n.item.0 ∷ z) (sym (braced (w.optional spell_public_base b) (flat_map (spell_item number) is)))

  class-is : (c : p.ClassTree) → words number (f.class c) ≡ spell_class number c
  class-is c = rw (base-is c.base, items-is c.items) (class-body c.name c.base c.items c.word)

  head-is : (it : ClassWord) (n : Placed NameId) → words number (f.class_head it n) ≡ spell_class_word it ++ spell_name n
  head-is class_word_of.Class n = refl
  head-is class_word_of.Struct n = refl

  class-name-is : (c : ClassName) → words number (f.class_name c) ≡ spell_class_name number c
  class-name-is c = ap w.ended (head-is c.word c.name)

  -- ---- globals

  const-is : (c : Const) → words number (f.const c) ≡ spell_const c
  const-is (const_of.Number true n) = refl
  const-is (const_of.Number false n) = refl
  const-is (const_of.Flag is_set) = flag-is number is_set
  const-is const_of.Null = refl

  constant-is : (c : Placed Const) → words number (f.constant c) ≡ spell_constant number c
  constant-is c = ap (λ z. w.sign sg.Assign ∷ z) (const-is c.item)

  variable-is : (v : Variable) → words number (f.variable v) ≡ spell_variable number v
  variable-is v = rw (typed-is number v.type_name v.name, words-optional number f.constant (spell_constant number) constant-is v.initial) refl

  object-arguments-is : (es : e.ExprTrees) → words number (f.object_arguments es) ≡ spell_object_arguments number es
  object-arguments-is e.no_exprs = refl
  object-arguments-is (e.more_exprs first rest) = arguments-is number (e.more_exprs first rest)

  object-is : (o : p.ObjectTree) → words number (f.object o) ≡ spell_object number o
  object-is o = rw (object-arguments-is o.arguments) refl

  global-is : (g : p.GlobalTree) → words number (f.global g) ≡ spell_global number g
  global-is (p.variable v) = variable-is v
  global-is (p.object o) = object-is o
  global-is (p.mutex at n) = refl

  -- ---- programs

  decl-is : (d : p.DeclTree) → words number (f.decl d) ≡ spell_decl number d
  decl-is (p.class c) = class-is c
  decl-is (p.class_name c) = class-name-is c
  decl-is (p.free_function g) = function-is 0 g
  decl-is (p.proto g) = proto-is g
  decl-is (p.global g) = global-is g

  decls-is : (ds : List p.DeclTree) → words number (f.decls ds) ≡ flat_map (spell_decl number) ds
  decls-is [] = refl
  decls-is (d ∷ ds) = λ i. (words-line number 0 (f.decl d) ∙ decl-is d) i ++ decls-is ds i

  directive-is : (d : Directive) → words number (f.directive d) ≡ spell_directive d
  directive-is (directive_of.Include header) = refl
  directive-is directive_of.Pragma = refl

  directives-is : (ds : List Directive) → words number (f.directives ds) ≡ flat_map spell_directive ds
  directives-is [] = refl
  directives-is (d ∷ ds) = λ i. (words-line number 0 (f.directive d) ∙ directive-is d) i ++ directives-is ds i

pub texts-are-spelled : TextsAreSpelled
texts-are-spelled number q =
    words-before number (f.program q) [] ∙ append-nil (words number (f.program q)) ∙ (λ i. directives-is number q.directives i ++ decls-is number q.decls i)
