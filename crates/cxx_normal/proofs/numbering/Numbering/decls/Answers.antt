use Rattle.std.proofs.Common.{map}
use Rattle.cxx_tree.specs.ProgramTree.{decl_tree}
use Rattle.cxx_normal.proofs.Declared.{decls-made}
use Rattle.cxx_normal.proofs.numbering.Numbering.decls.Goals as goal

pub returns : goal.returns
returns c =
    decls-made c.args.main.0 (map decl_tree c.args.decls.now) c.args.self.now.next (map decl_tree c.add_forwards.new.copies) (map decl_tree c.add_prototypes.new.copies) (map decl_tree c.add_each_kept.new.copies) c.add_each_kept.new.self.next
    (rw c.new-copies.ensures at c.in_ok-add_forwards.ensures) c.in_ok-add_prototypes.ensures c.in_ok-add_each_kept.ensures
