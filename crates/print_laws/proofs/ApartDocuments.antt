-- Documents whose parts are read as what they are, from the shape of what stands behind them.
use Rattle.std.proofs.Common.{◌≡◌, ℕ, zero, suc, Bool, true, List, [], ◌∷◌, Option, Some, None, refl, sym, ap, ◌∙◌, subst}
use Rattle.agxx_base.specs.declared.vocabulary.Sign.TheVariants as sg
use Rattle.cxx_tree.specs.Fits.{Optionally}
use Rattle.cxx_print.specs.Document.{Part, Document, nothing, one, ◌⨾◌, parts_before, indented, line}
use Rattle.cxx_print.specs.Expressions.{in_parentheses, ended}
use Rattle.cxx_print.specs.Statements.{optional}
use Rattle.print_laws.proofs.Shapes.{Shape, letters, quotes, sign, directive, space, shape, may_touch, is_spelled, Touches, AreApart}

-- whether a part of a shape may stand before what has this shape, or before the end
abbrev pub touches : Shape → Option Shape → Bool
touches space next = true
touches it None = true
touches it (Some next) = may_touch it next

-- the shape of the first part of a document that stands before this
abbrev pub front : Document → Option Shape → Option Shape
front nothing next = next
front (one part) next = Some (shape part)
front (first ⨾ second) next = front first (front second next)

-- each part of a document has a text, and is read as what it is before the next, where this stands behind the document
abbrev pub Apart : Document → Option Shape → Type 0
Apart nothing next = Unit {0}
Apart (one part) next = (is_spelled part ≡ true) × (touches (shape part) next ≡ true)
Apart (first ⨾ second) next = Apart first (front second next) × Apart second next

-- ---- the parts of such a document

abbrev pub first_shape : List Part → Option Shape
first_shape [] = None
first_shape (part ∷ rest) = Some (shape part)

front-is : (d : Document) (rest : List Part) → first_shape (parts_before d rest) ≡ front d (first_shape rest)
front-is nothing rest = refl
front-is (one part) rest = refl
front-is (first ⨾ second) rest = front-is first (parts_before second rest) ∙ ap (front first) (front-is second rest)

touches-next : (it next : Shape) → touches it (Some next) ≡ true → may_touch it next ≡ true
touches-next letters next is = is
touches-next quotes next is = is
touches-next (sign s) next is = is
touches-next directive next is = is
touches-next space next is = refl

touches-parts : (part : Part) (rest : List Part) → touches (shape part) (first_shape rest) ≡ true → Touches part rest
touches-parts part [] is = tt
touches-parts part (next ∷ rest) is = touches-next (shape part) (shape next) is

pub parts-apart : (d : Document) (rest : List Part) → Apart d (first_shape rest) → AreApart rest → AreApart (parts_before d rest)
parts-apart nothing rest h behind = behind
parts-apart (one part) rest (spelled, is) behind = (spelled, touches-parts part rest is, behind)
parts-apart (first ⨾ second) rest (here, there) behind =
    parts-apart first (parts_before second rest) (subst (Apart first) (sym (front-is second rest)) here) (parts-apart second rest there behind)

-- ---- forms of documents

-- what may stand behind an expression
abbrev pub Closes : Option Shape → Type 0
Closes next = (touches letters next ≡ true) × (touches (sign sg.CloseParen) next ≡ true)

pub quotes-touch : (next : Option Shape) → touches quotes next ≡ true
quotes-touch None = refl
quotes-touch (Some next) = refl

pub parentheses-apart : (d : Document) (next : Option Shape)
    → touches (sign sg.OpenParen) (front d (Some (sign sg.CloseParen))) ≡ true → Apart d (Some (sign sg.CloseParen)) → touches (sign sg.CloseParen) next ≡ true
    → Apart (in_parentheses d) next
parentheses-apart d next opens h closes = ((refl, opens), (h, (refl, closes)))

pub ended-apart : (d : Document) (next : Option Shape) → Apart d (Some (sign sg.Semicolon)) → touches (sign sg.Semicolon) next ≡ true → Apart (ended d) next
ended-apart d next h is = (h, (refl, is))

pub indented-apart : (level : ℕ) (next : Option Shape) → Apart (indented level) next
indented-apart zero next = tt
indented-apart (suc level) next = ((refl, refl), indented-apart level next)

pub line-apart : (level : ℕ) (d : Document) (next : Option Shape) → Apart d (Some space) → Apart (line level d) next
line-apart level d next h = (indented-apart level (front d (Some space)), (h, (refl, refl)))

pub optional-apart : {A : Type 0} {Holds : A → Type 0} (form : A → Document) (next : Option Shape)
    → ((x : A) → Holds x → Apart (form x) next) → (x : Option A) → Optionally Holds x → Apart (optional form x) next
optional-apart form next each None h = tt
optional-apart form next each (Some x) h = each x h
