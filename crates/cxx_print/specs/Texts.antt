-- The text of a document, where these are the texts of the names.
use Rattle.std.specs.Prelude.{ℕ, List, [], ◌∷◌, ◌++◌, if◌then◌else◌, ◌==◌, codes, decimal, slice_get, unwrap_or}
use Rattle.std.specs.List.{flat_map}
use Rattle.agxx_base.specs.declared.kind.NumKind.{NumKind}
use Rattle.agxx_base.specs.declared.kind.NumKind.TheVariants as num
use Rattle.agxx_base.specs.declared.vocabulary.Header.{Header}
use Rattle.agxx_base.specs.Vocabulary.{keyword_text, sign_text, header_text, special_text}
use Rattle.cxx_tree.specs.Words.{Word}
use Rattle.cxx_tree.specs.Words as w
use Rattle.cxx_print.specs.Document.{Part, word, special, blank, margin, newline}

-- what stands behind the digits of a number; no number of a text has one of the other kinds
abbrev pub suffix : NumKind → List ℕ
suffix num.Bool = []
suffix num.I8 = []
suffix num.U8 = []
suffix num.I16 = []
suffix num.U16 = []
suffix num.I32 = []
suffix num.U32 = codes "u"
suffix num.I64 = codes "ll"
suffix num.U64 = codes "ull"

-- how a string in quotes has a byte
abbrev pub escaped : ℕ → List ℕ
escaped b = if b == 10 then 92 ∷ 110 ∷ [] else (if b == 9 then 92 ∷ 116 ∷ [] else (if b == 92 then 92 ∷ 92 ∷ [] else (if b == 34 then 92 ∷ 34 ∷ [] else b ∷ [])))

abbrev pub quoted : List ℕ → List ℕ
quoted bytes = 34 ∷ (flat_map escaped bytes ++ 34 ∷ [])

-- a number that is no name's has no text
abbrev pub name_text : List (List ℕ) → ℕ → List ℕ
name_text names id = unwrap_or (slice_get names id) []

abbrev pub include_text : Header → List ℕ
include_text header = codes "#include <" ++ (header_text header ++ codes ">")

abbrev pub word_text : List (List ℕ) → Word → List ℕ
word_text names (w.name id) = name_text names id
word_text names (w.number bits kind) = decimal bits ++ suffix kind
word_text names (w.text bytes) = quoted bytes
word_text names (w.keyword keyword) = keyword_text keyword
word_text names (w.sign sign) = sign_text sign
word_text names (w.include header) = include_text header
word_text names w.pragma = codes "#pragma once"

abbrev pub part_text : List (List ℕ) → Part → List ℕ
part_text names (word it) = word_text names it
part_text names (special name) = special_text name
part_text names blank = codes " "
part_text names margin = codes "    "
part_text names newline = 10 ∷ []

abbrev pub text_of_parts : List (List ℕ) → List Part → List ℕ
text_of_parts names parts = flat_map (part_text names) parts
