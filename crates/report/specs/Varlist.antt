-- 01, "Values to try": what the program `varlist` prints of an image; and `plainlist`, in the same form of text, of one in the plain form of 02 (d).
use Rattle.std.specs.Prelude.{ℕ, ◌%◌, List, [], ◌∷◌, ◌++◌, length}
use Rattle.model.specs.declared.Layout.{Layout}
use Rattle.model.specs.Layout.{authenticated}
use Rattle.model.specs.Lists.{on_some}
use Rattle.model.specs.Image.{region_size, region}
use Rattle.model.specs.Entry.{Value}
use Rattle.model.specs.Region.{tail_at_in, values_in}
use Rattle.model.specs.Rules.{first_broken, image_rules_in}
use Rattle.model.specs.Answers.{rule_number}
use Rattle.output.specs.Text.{ascii, hex_of, decimal_of}

-- a word, as "region ", and a number behind it
unfoldable pub field : List ℕ → ℕ → List ℕ
field word n = word ++ decimal_of n

-- "region length, tail offset, number of values"
unfoldable pub summary_line : ℕ → ℕ → ℕ → List ℕ
summary_line size used live =
    field (ascii "region ") size ++ field (ascii " used ") used ++ field (ascii " live ") live ++ ascii "\n"

-- "GUID, name bytes, ..
unfoldable pub key_text : List ℕ → List ℕ → List ℕ
key_text vendor name = hex_of vendor ++ ascii " " ++ hex_of name ++ ascii " "

-- .. attributes in two hexadecimal digits and data size": the low byte of attributes, of which the stored ones have no more
unfoldable pub entry_line : List ℕ → List ℕ → ℕ → ℕ → List ℕ
entry_line vendor name attributes size =
    key_text vendor name ++ hex_of (attributes % 256 ∷ []) ++ field (ascii " ") size ++ ascii "\n"

unfoldable pub value_line : Value → List ℕ
value_line v = entry_line v.vendor v.name v.attributes (length v.bytes)

unfoldable pub value_lines : List Value → List ℕ
value_lines [] = []
value_lines (v ∷ vs) = value_line v ++ value_lines vs

-- "If refused: `refused` and the number."
unfoldable pub refused_line : ℕ → List ℕ
refused_line n = field (ascii "refused ") n ++ ascii "\n"

-- a store that is accepted: the summary, then a line for each value in flash order
unfoldable pub store_text : Layout → List ℕ → List ℕ
store_text y img =
    summary_line (region_size img) (tail_at_in y (region img)) (length (values_in y img)) ++ value_lines (values_in y img)

-- "checks it as a call does (rules 1 and 2)", in a stored form
unfoldable pub list_text : Layout → List ℕ → List ℕ
list_text y img = on_some (first_broken (image_rules_in y img)) (λ rule. refused_line (rule_number rule)) (store_text y img)

-- `varlist`: in the form in which calls store
abbrev pub varlist_text : List ℕ → List ℕ
varlist_text = list_text authenticated
