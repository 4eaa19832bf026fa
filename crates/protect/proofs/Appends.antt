-- Lists to which one list is appended after another.
use Rattle.std.proofs.Common.{◌≡◌, ℕ, ap, ◌∙◌, List, ◌++◌, map, append_assoc}
use Rattle.cxx_tree.specs.declared.program.Member.{Member}
use Rattle.cxx_tree.specs.ProgramTree.{ItemTree, FunctionTree, member, function}
use Rattle.cxx_make.specs.Generated.{text_of}
use Rattle.guards.specs.declared.guard.GuardKind.{GuardKind}
use Rattle.codec.specs.declared.part.Part.{Part}
use Rattle.codec.specs.Codes.{Code, code_texts}
use Rattle.entry_count.specs.PartCode.{part_members, part_functions, part_texts}
use Rattle.protect.specs.Protected.{code_of, part_items}
use Rattle.protect.specs.GeneratedNames.{own_texts}

twice : {A : Type 0} (before mid after one other : List A) → mid ≡ before ++ one → after ≡ mid ++ other → after ≡ before ++ (one ++ other)
twice before mid after one other first second = second ∙ (ap (λ xs. xs ++ other) first ∙ append_assoc before one other)

-- the items of a part, behind others
pub with_part_items :
    (code : Code) (names : List (List ℕ)) (part : Part) (members : List Member) (functions : List FunctionTree) (before after : List ItemTree)
    → members ≡ part_members code names part → functions ≡ part_functions code names part → after ≡ before ++ (map member members ++ map function functions)
    → after ≡ before ++ part_items code names part
unfolding part_items
with_part_items code names part members functions before after ms fs all =
    all ∙ (ap (λ (xs : List Member). before ++ (map member xs ++ map function functions)) ms
    ∙ ap (λ (xs : List FunctionTree). before ++ (map member (part_members code names part) ++ map function xs)) fs)

-- the texts of a part, behind others
pub with_own_texts :
    (names : List (List ℕ)) (kind : GuardKind) (part : Part) (text : List ℕ) (before mid after : List (List ℕ))
    → text ≡ text_of names part.class.item → mid ≡ before ++ part_texts text → after ≡ mid ++ code_texts (code_of kind) names part
    → after ≡ before ++ own_texts names kind part
unfolding own_texts
with_own_texts names kind part text before mid after e one other =
    twice before mid after (part_texts (text_of names part.class.item)) (code_texts (code_of kind) names part) (one ∙ ap (λ (t : List ℕ). before ++ part_texts t) e) other
