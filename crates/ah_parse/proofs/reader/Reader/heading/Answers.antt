use Rattle.cxx_lex.specs.Tokens.{token_of}
use Rattle.ah_parse.proofs.Parts.{no-keyword, no-name, no-opening}
use Rattle.ah_parse.proofs.reader.Reader.heading.Goals as goal

pub returns-then-not-pass : goal.returns-then-not-pass
returns-then-not-pass c = no-keyword c.args.self.now (c.if-not-pass.ensures).0

pub returns-in-None : goal.returns-in-None
returns-in-None c = no-name c.args.self.now c.pass.new.self c.if-not-pass.ensures c.in-None.ensures

pub returns-in-None-opening : goal.returns-in-None-opening
returns-in-None-opening c =
    no-opening (token_of c.in-Some.name) c.args.self.now c.pass.new.self c.name.new.self c.if-not-pass.ensures c.in-Some.ensures c.in-None-opening.ensures
