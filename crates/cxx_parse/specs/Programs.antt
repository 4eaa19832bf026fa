-- The descent over the words of a whole program.
use Rattle.std.specs.Prelude.{ℕ, zero, suc, List, [], ◌∷◌, length, Option, Some, None}
use Rattle.agxx_base.specs.declared.place.Place.{Place}
use Rattle.cxx_tree.specs.declared.node.Placed.{Placed}
use Rattle.cxx_tree.specs.declared.program.Directive.{Directive}
use Rattle.cxx_tree.specs.declared.program.Directive.TheVariants as directive_of
use Rattle.cxx_tree.specs.Words as w
use Rattle.cxx_tree.specs.Words.{Word}
use Rattle.cxx_tree.specs.ProgramTree.{DeclTree, ProgramTree}
use Rattle.cxx_expr.specs.declared.stop.Stop.TheVariants.{Syntax}
use Rattle.cxx_expr.specs.Tokens.{Tokens, next, after}
use Rattle.cxx_expr.specs.Outcome.{done, failed, Parse, and_then}
use Rattle.cxx_expr.specs.Descent.{front_of}
use Rattle.cxx_stmt.specs.declared.dialect.Dialect.{Dialect}
use Rattle.cxx_parse.specs.Declarations.{decl}

-- ---- directives

abbrev pub directive_word : Word → Option Directive
directive_word (w.include h) = Some (directive_of.Include h)
directive_word w.pragma = Some directive_of.Pragma
directive_word _ = None

abbrev pub directive_next : Option (Placed Word) → Option Directive
directive_next None = None
directive_next (Some t) = directive_word t.item

abbrev pub directives_by : Option Directive → Parse Tokens (List Directive) → Parse Tokens (List Directive)
directives_by None more ts = done [] ts
directives_by (Some x) more ts = front_of (x ∷ []) (more (after ts))

-- the directives at the beginning. The number bounds the turns.
unfoldable pub directives_from : ℕ → Parse Tokens (List Directive)
directives_from zero ts = failed Syntax ts
directives_from (suc n) ts = directives_by (directive_next (next ts)) (λ ts. directives_from n ts) ts

abbrev pub directives : Parse Tokens (List Directive)
directives ts = directives_from (suc (length ts)) ts

-- ---- declarations up to the end

abbrev pub decls_by : Parse Tokens DeclTree → Parse Tokens (List DeclTree) → Tokens → Parse Tokens (List DeclTree)
decls_by part more [] ts = done [] ts
decls_by part more (t ∷ rest) ts = and_then (part ts) (λ x ts. front_of (x ∷ []) (more ts))

-- The number bounds the turns.
unfoldable pub decls_from : Parse Tokens DeclTree → ℕ → Parse Tokens (List DeclTree)
decls_from part zero ts = failed Syntax ts
decls_from part (suc n) ts = decls_by part (λ ts. decls_from part n ts) ts ts

abbrev pub decls : Parse Tokens DeclTree → Parse Tokens (List DeclTree)
decls part ts = decls_from part (suc (length ts)) ts

-- A program that is all the words, at this place, in which expressions have so many operators at most and braces,
-- parentheses and `else if` nest no deeper than depth.
unfoldable pub program : ℕ → Dialect → ℕ → Place → Parse Tokens ProgramTree
program most d depth at ts =
    and_then (directives ts) (λ ds ts. and_then (decls (decl most d depth) ts) (λ xs. done (record { at = at; directives = ds; decls = xs })))
