use Rattle.ah_parse.proofs.Parts.{no-quoted}
use Rattle.ah_parse.proofs.reader.Reader.class.Goals as goal

pub returns-in-None : goal.returns-in-None
returns-in-None c = no-quoted c.args.self.now c.in-None.ensures
