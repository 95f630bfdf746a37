-- What a call that reads answers, rule by rule as the code checks them: first 1, 2, 3 and 22, then of the value found 11 and 14.
use Rattle.std.specs.Prelude.{ℕ, ◌≡◌, Bool, not, cond, ◌||◌, List, [], ◌∷◌, ◌++◌, length, ltb, Result, Ok, Err, IfOk, IfErr}
use Rattle.std.proofs.Math.Option.{Option, none, some}
use Rattle.model.specs.Layout.{authenticated}
use Rattle.model.specs.Lists.{same, on_some}
use Rattle.model.specs.Image.{region}
use Rattle.model.specs.Name.{Key, well_named, empty_name}
use Rattle.model.specs.Entry.{Value}
use Rattle.model.specs.Region.{entries, values_of}
use Rattle.model.specs.Rules.{first_broken, image_rules, rule11_read, rule14, rule22_next, named_bytes, value_to_name}
use Rattle.model.specs.Answers.{rule_number, Reply, refusal, written, answer_of, done, refused}
use Rattle.model.specs.declared.View.{View}
use Rattle.model.specs.declared.Rule.{Rule}
use Rattle.model.specs.declared.Rule.TheVariants.{Name, Side, Absent, Buffer}
use Rattle.model.specs.declared.Answer.TheVariants.{Refused}
use Rattle.model.specs.declared.Got.{Got}
use Rattle.region.specs.Met.{met_of}
use Rattle.image.specs.Check.{ready_of}
use Rattle.image.specs.declared.Ready.{Ready}
use Rattle.image.specs.declared.Checked.{Checked}

-- rules 1, 2, 3 and 22, of an image, of whether the name is one that the call takes, and of whether it is the other side's
unfoldable pub open_of : List ℕ → Bool → Bool → Result Ready Rule
open_of img named foreign =
    on_some (first_broken (image_rules img ++ ((Name, not named) ∷ (Side, foreign) ∷ []))) Err (Ok (ready_of authenticated img))

-- what all four leave, and where the region has the name; or the first of them broken
pub record Opened (img : List ℕ) (named foreign : Bool) (k : Key) (c : Result Checked Rule) : Type 0 where
  pub kept : IfOk c (λ x. (open_of img named foreign ≡ Ok x.ready) × (x.met ≡ met_of k (entries (region img))))
  pub broken : IfErr c (λ rule. open_of img named foreign ≡ Err rule)

-- rules 11 and 14, of the value found and of what the call writes of it
unfoldable pub found_broken : Option Value → (Value → List ℕ) → List ℕ → Option Rule
found_broken found bytes buffer = first_broken ((Absent, rule11_read found) ∷ (Buffer, rule14 found bytes buffer) ∷ [])

-- all six
unfoldable pub read_broken : List ℕ → Bool → Bool → Option Value → (Value → List ℕ) → List ℕ → Option Rule
read_broken img named foreign found bytes buffer =
    first_broken (image_rules img ++ ((Name, not named) ∷ (Side, foreign) ∷ (Absent, rule11_read found) ∷ (Buffer, rule14 found bytes buffer) ∷ []))

-- the reply, by the rule broken and the value found
unfoldable pub reply_of : Option Rule → Option Value → (Value → List ℕ) → (Value → ℕ) → List ℕ → Reply
reply_of broken found bytes attributes buffer =
    on_some
    broken
    (λ rule. refusal rule (on_some found (λ v. length (bytes v)) 0) buffer)
    (on_some found (λ v. written (bytes v) (attributes v) buffer) (written [] 0 buffer))

abbrev pub found_reply : Option Value → (Value → List ℕ) → (Value → ℕ) → List ℕ → Reply
found_reply found bytes attributes buffer = reply_of (found_broken found bytes buffer) found bytes attributes buffer

-- rule 14 alone, of the bytes to write, and the reply then
unfoldable pub short_of : List ℕ → List ℕ → Option Rule
short_of bytes buffer = cond (ltb (length buffer) (length bytes)) (some Buffer) none

unfoldable pub reply_to : List ℕ → ℕ → List ℕ → Reply
reply_to bytes attributes buffer =
    on_some (short_of bytes buffer) (λ rule. refusal rule (length bytes) buffer) (written bytes attributes buffer)

-- of next-name, by what its session says to it: the value found, the rule broken, the reply
abbrev pub next_at : View → Key → List ℕ → Option Value
next_at v k img = value_to_name v.vendor v.modem v.runtime k (values_of img)

abbrev pub next_named : Key → Bool
next_named k = well_named k.name || same k.name empty_name

abbrev pub next_broken_at : View → Key → List ℕ → List ℕ → Option Rule
next_broken_at v k buffer img = read_broken img (next_named k) (rule22_next v.vendor v.modem k) (next_at v k img) named_bytes buffer

abbrev pub next_reply_at : View → Key → List ℕ → List ℕ → Reply
next_reply_at v k buffer img =
    reply_of (next_broken_at v k buffer img) (next_at v k img) named_bytes (λ v. 0) buffer

-- what is given back when a rule is broken
abbrev pub refused_got : Rule → ℕ → Got
refused_got rule needed = record { answer = Refused rule; size = 0; attributes = 0; needed = needed }

-- a call that reads has answered so: refused by the rule broken, or done with no stores; and given and left in the buffer what the reply says
pub record Answered (broken : Option Rule) (reply : Reply) (got : Got) (after : List ℕ) : Type 0 where
  pub answer : answer_of got.answer ≡ on_some broken (λ rule. refused (rule_number rule)) (done 0)
  pub size : got.size ≡ reply.size
  pub attributes : got.attributes ≡ reply.attributes
  pub needed : got.needed ≡ reply.needed
  pub buffer : after ≡ reply.buffer
