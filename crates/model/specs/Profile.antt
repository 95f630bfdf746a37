-- 02 (l), "A station profile as one change": the form of a profile's file, and the sets that its items ask for. Rules 25 and 26 stand with the others.
use Rattle.std.specs.Prelude.{ℕ, zero, suc, ◌+◌, ◌*◌, ◌-◌, Bool, false, cond, ◌&&◌, ◌||◌, List, [], ◌∷◌, length, take, drop, eqb, leb, ltb}
use Rattle.std.proofs.Math.Option.{Option, none, some}
use Rattle.model.specs.Lists.{part, any, among, is_empty, on_some}
use Rattle.model.specs.Name.{same_key_def}
use Rattle.model.specs.Request.{Request, request_key}

-- a number, and the bytes behind it
pub record Number : Type 0 where
  pub value : ℕ
  pub rest : List ℕ

-- "Numbers are groups of seven bits, low group first, top bit set where another follows, shortest form": a group of 0 ends no number but 0 itself. Of so many groups
-- at most
unfoldable pub number : ℕ → List ℕ → Option Number
number zero s = none
number (suc n) [] = none
number (suc n) (b ∷ s) =
    cond
    (ltb b 128)
    (some (record { value = b; rest = s }))
    (on_some
    (number n s)
    (λ m. cond (eqb m.value 0) none (some (record { value = b - 128 + 128 * m.value; rest = m.rest })))
    none)

-- "three at most"
abbrev pub number_at : List ℕ → Option Number
number_at s = number 3 s

-- an item as the set that it asks for, without presence and verdict, and the bytes behind it
pub record Item : Type 0 where
  pub asked : Request
  pub rest : List ℕ

-- "Attributes are 0x03 or 0x07"
abbrev pub item_attributes : List ℕ
item_attributes = 0x03 ∷ 0x07 ∷ []

-- behind its numbers "GUID, name and data", as long as these say
unfoldable pub item_body : ℕ → ℕ → ℕ → List ℕ → Option Item
item_body a name size s =
    cond
    (among item_attributes a && leb (16 + name + size) (length s))
    (some
    (record {
      asked = record { name = part 16 name s; vendor = take 16 s; attributes = a; bytes = part (16 + name) size s; presence = 0; verdict = 0 };
      rest = drop (16 + name + size) s;
    }))
    none

-- "for each attributes, name size, data size, GUID, name and data"
unfoldable pub item_at : List ℕ → Option Item
item_at s =
    on_some
    (number_at s)
    (λ a. on_some (number_at a.rest) (λ n. on_some (number_at n.rest) (λ d. item_body a.value n.value d.value d.rest) none) none)
    none

-- so many items, and no bytes left over
unfoldable pub items_at : ℕ → List ℕ → Option (List Request)
items_at zero s = cond (is_empty s) (some []) none
items_at (suc n) s = on_some (item_at s) (λ i. on_some (items_at n i.rest) (λ rs. some (i.asked ∷ rs)) none) none

-- "A profile holds up to eight settings in a file: their number, then for each .."; none where the file is not of this form
abbrev pub item_space : ℕ
item_space = 8

unfoldable pub profile_of : List ℕ → Option (List Request)
profile_of file = on_some (number_at file) (λ n. cond (leb n.value item_space) (items_at n.value n.rest) none) none

-- its items as sets, none where it has no such form
unfoldable pub items_in : List ℕ → List Request
items_in file = on_some (profile_of file) (λ rs. rs) []

-- "two items share name and GUID"
unfoldable pub shares_name_def : List Request → Bool
shares_name_def [] = false
shares_name_def (r ∷ rs) = any (λ q. same_key_def (request_key q) (request_key r)) rs || shares_name_def rs
