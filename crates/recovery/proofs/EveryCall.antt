-- Every call alike: it is refused by the first rule that it breaks, and otherwise does what its kind does. So what holds of a refusal, and of a kind, is said once; a call has of
-- its own what its rules leave where it breaks none.
-- Assumes nothing.
use Prim.Native.Nat.{ℕ}
use mathlib.Core.Path.{◌≡◌, ap}
use mathlib.Core.Bool.{true}
use mathlib.Core.List.{List}
use mathlib.Core.Option.{Option, none, some}
use Rattle.model.specs.declared.Rule.{Rule}
use Rattle.model.specs.Lists.{on_some}
use Rattle.model.specs.Image.{right_length, region_size}
use Rattle.model.specs.Entry.{Value}
use Rattle.model.specs.Region.{values_of}
use Rattle.model.specs.Work.{ready_for_call, ready_for_start_up}
use Rattle.model.specs.Profile.{items_in}
use Rattle.model.specs.Change.{Change}
use Rattle.model.specs.Stores.{Bytes}
use Rattle.model.specs.Set.{refuse}
use Rattle.model.specs.Book.{Call, set, get, next, start_up_def, several, profile, mode, call_broken, Kind, reads, writes, starts_up, kind_of, doing, plan_of, Sized}
use Rattle.model.proofs.Changes.{EachPut, Fitting}
use Rattle.model.proofs.Requests.{set-length, set-ready, set-fitting, mode-length, mode-ready, mode-fitting, get-ready, gets-ready, next-ready, start_up-length, start_up-ready}
use Rattle.model.proofs.Files.{file-read}
use Rattle.model.proofs.Profiles.{profile-length, profile-ready, profile-fitting}
use Rattle.recovery.proofs.ByteLists.{Bytewise, bytes_take, bytes_drop, image-values, set-bytes, request-bytes, items-bytes}

pub plan-accepted : (c : Call) (img : List ℕ) → call_broken c img ≡ none → plan_of c img ≡ doing (kind_of c) img
unfolding plan_of
plan-accepted c img e = ap (λ (o : Option Rule). on_some o refuse (doing (kind_of c) img)) e

pub plan-refused : (c : Call) (img : List ℕ) (rule : Rule) → call_broken c img ≡ some rule → plan_of c img ≡ refuse rule
unfolding plan_of
plan-refused c img rule e = ap (λ (o : Option Rule). on_some o refuse (doing (kind_of c) img)) e

-- what the rules leave of changes on an image: it is ready, and they fit; on an image of bytes they put bytes
pub record Lets (changes : List Value → List Change) (img : List ℕ) : Type 0 where
  pub long : right_length img ≡ true
  pub ready : ready_for_call img ≡ true
  pub fitting : Fitting (changes (values_of img)) (values_of img) (region_size img)
  pub bytewise : Bytes img → EachPut Bytewise (changes (values_of img))

-- and of a call, by its kind
abbrev pub Accepted : Kind → List ℕ → Type 0
Accepted reads img = (right_length img ≡ true) × (ready_for_call img ≡ true)
Accepted (writes fold changes) img = Lets changes img
Accepted (starts_up setup) img = (right_length img ≡ true) × (ready_for_start_up img ≡ true)

-- this is what each call has of its own
pub accepted : (c : Call) (img : List ℕ) → Sized c → call_broken c img ≡ none → Accepted (kind_of c) img
accepted (set m s r) img sized e = record {
  long = set-length m s r img e;
  ready = set-ready m s r img e;
  fitting = set-fitting m s r img e sized.2;
  bytewise = λ bytes. set-bytes r (values_of img) (image-values img bytes) sized.0 sized.1 sized.3;
}
accepted (get m s k buffer) img sized e = get-ready m s k buffer img e
accepted (next m s k buffer) img sized e = next-ready m s k buffer img e
accepted (start_up_def setup) img sized e = (start_up-length setup img e, start_up-ready setup img e)
accepted (several m s ks buffer) img sized e = gets-ready ks img e
accepted (profile m s file) img sized e =
    record {
      long = profile-length m s file img e;
      ready = profile-ready m s file img e;
      fitting = profile-fitting m s file img e;
      bytewise = λ bytes. items-bytes (items_in file) (values_of img) (file-read Bytes bytes_take bytes_drop file sized) (image-values img bytes);
    }
accepted (mode m s to) img sized e = record {
  long = mode-length m s to img e;
  ready = mode-ready m s to img e;
  fitting = mode-fitting m s to img e;
  bytewise = λ bytes. request-bytes to (values_of img);
}
