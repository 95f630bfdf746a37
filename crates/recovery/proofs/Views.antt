-- What a side sees: looking an own name up, and the change of an own and of another's name. A side's call looks at nothing else.
-- Assumes nothing.
use Prim.Native.Nat.{ℕ}
use mathlib.Core.Path.{◌≡◌, refl, sym, ap, ◌∙◌}
use mathlib.Core.Bool.{Bool, true, false, not, cond, ◌&&◌, false≢true, true≢false}
use mathlib.Core.List.{List, [], ◌∷◌, ◌++◌, append-nil}
use mathlib.Core.Option.{some}
use borrow.Author.Tests.{not-true}
use Rattle.model.specs.Lists.{keep, first, same}
use Rattle.model.specs.Name.{Key, same_key_def, record_name}
use Rattle.model.specs.Entry.{Value, key_of}
use Rattle.model.specs.Region.{find}
use Rattle.model.specs.Change.{Change, nothing, remove, put, without, step, steps}
use Rattle.model.specs.Request.{is_key_name_def, key_pk, key_mode}
use Rattle.model.proofs.Tests.{key-eq, key-refl}
use Rattle.model.proofs.Values.{keep_append, keep-twice}
use Rattle.model.specs.Sides.{modem_name, owns, view}

module _ {A : Type 0} where
  -- where one test implies another, the other's keeping changes nothing
  pub keep-within : (f g : A → Bool) → ((a : A) → f a ≡ true → g a ≡ true) → (l : List A) → keep f (keep g l) ≡ keep f l
  keep-within f g h [] = refl
  keep-within f g h (a ∷ l) = go (f a) refl (g a) refl (keep-within f g h l)
    where
      go : (x : Bool) → f a ≡ x → (y : Bool) → g a ≡ y → keep f (keep g l) ≡ keep f l
          → keep f (cond (g a) (a ∷ keep g l) (keep g l)) ≡ cond (f a) (a ∷ keep f l) (keep f l)
      go true e true k i = simp (e, k) (ap (λ (m : List A). a ∷ m) i)
      go true e false k i = absurd (false≢true (sym k ∙ h a e))
      go false e true k i = simp (e, k) i
      go false e false k i = simp (e, k) i

  -- where one test excludes another, taking out the other changes nothing
  pub keep_apart : (f g : A → Bool) → ((a : A) → f a ≡ true → g a ≡ false) → (l : List A) → keep f (keep (λ a. not (g a)) l) ≡ keep f l
  keep_apart f g h l = keep-within f (λ a. not (g a)) (λ a e. ap not (h a e)) l

  pub first-kept : (f g : A → Bool) → ((a : A) → f a ≡ true → g a ≡ true) → (l : List A) → first f (keep g l) ≡ first f l
  first-kept f g h [] = refl
  first-kept f g h (a ∷ l) = go (f a) refl (g a) refl (first-kept f g h l)
    where
      go : (x : Bool) → f a ≡ x → (y : Bool) → g a ≡ y → first f (keep g l) ≡ first f l
          → first f (cond (g a) (a ∷ keep g l) (keep g l)) ≡ cond (f a) (some a) (first f l)
      go true e true k i = simp (e, k)
      go true e false k i = absurd (false≢true (sym k ∙ h a e))
      go false e true k i = simp (e, k) i
      go false e false k i = simp (e, k) i

module _ (guid : List ℕ) (modem : Bool) where
  abbrev own : Value → Bool
  own v = owns guid modem (key_of v)

  -- values of an own name are own
  named-own : (k : Key) → owns guid modem k ≡ true → (v : Value) → same_key_def (key_of v) k ≡ true → own v ≡ true
  named-own k o v e = ap (owns guid modem) (key-eq (key_of v) k e) ∙ o

  named_other : (k : Key) → owns guid modem k ≡ false → (v : Value) → own v ≡ true → same_key_def (key_of v) k ≡ false
  named_other k o v e = go (same_key_def (key_of v) k) refl
    where
      go : (b : Bool) → same_key_def (key_of v) k ≡ b → b ≡ false
      go true h = absurd (true≢false (sym e ∙ ap (owns guid modem) (key-eq (key_of v) k h) ∙ o))
      go false h = refl

  pub find-view : (k : Key) (vs : List Value) → owns guid modem k ≡ true → find k (view guid modem vs) ≡ find k vs
  unfolding find view
  find-view k vs o = first-kept (λ v. same_key_def (key_of v) k) own (named-own k o) vs

  -- the change of an own name is a change of the view
  view-without : (k : Key) (vs : List Value) → view guid modem (without k vs) ≡ without k (view guid modem vs)
  unfolding view without
  view-without k vs = keep-twice own (λ v. not (same_key_def (key_of v) k)) vs

  -- the change of another's name is none
  view-without-other : (k : Key) (vs : List Value) → owns guid modem k ≡ false → view guid modem (without k vs) ≡ view guid modem vs
  unfolding view without
  view-without-other k vs o = keep_apart own (λ v. same_key_def (key_of v) k) (named_other k o) vs

  view-last : (xs : List Value) (v : Value) → own v ≡ true → view guid modem (xs ++ (v ∷ [])) ≡ view guid modem xs ++ (v ∷ [])
  unfolding view
  view-last xs v o = keep_append own xs (v ∷ []) ∙ rw o

  view-last-other : (xs : List Value) (v : Value) → own v ≡ false → view guid modem (xs ++ (v ∷ [])) ≡ view guid modem xs
  unfolding view
  view-last-other xs v o = keep_append own xs (v ∷ []) ∙ rw o (append-nil (keep own xs))

  -- the name that a change is about, if any
  abbrev pub About : Change → Bool → Type 0
  About nothing mine = Unit {0}
  About (remove k) mine = owns guid modem k ≡ mine
  About (put v) mine = own v ≡ mine

  pub view-step : (c : Change) (vs : List Value) → About c true → view guid modem (step c vs) ≡ step c (view guid modem vs)
  unfolding step
  view-step nothing vs o = refl
  view-step (remove k) vs o = view-without k vs
  view-step (put v) vs o = view-last (without (key_of v) vs) v o ∙ ap (λ (l : List Value). l ++ (v ∷ [])) (view-without (key_of v) vs)

  pub view-step-other : (c : Change) (vs : List Value) → About c false → view guid modem (step c vs) ≡ view guid modem vs
  unfolding step
  view-step-other nothing vs o = refl
  view-step-other (remove k) vs o = view-without-other k vs o
  view-step-other (put v) vs o = view-last-other (without (key_of v) vs) v o ∙ view-without-other (key_of v) vs o

  -- so of changes one after another
  abbrev pub AllAbout : List Change → Bool → Type 0
  AllAbout [] mine = Unit {0}
  AllAbout (c ∷ cs) mine = About c mine × AllAbout cs mine

  pub view-steps : (cs : List Change) (vs : List Value) → AllAbout cs true → view guid modem (steps cs vs) ≡ steps cs (view guid modem vs)
  unfolding steps
  view-steps [] vs o = refl
  view-steps (c ∷ cs) vs o = view-steps cs (step c vs) o.1 ∙ ap (steps cs) (view-step c vs o.0)

  pub view-steps-other : (cs : List Change) (vs : List Value) → AllAbout cs false → view guid modem (steps cs vs) ≡ view guid modem vs
  unfolding steps
  view-steps-other [] vs o = refl
  view-steps-other (c ∷ cs) vs o = view-steps-other cs (step c vs) o.1 ∙ view-step-other c vs o.0

-- ---- whose a name is

-- a name is one side's
pub not-other : (guid : List ℕ) (modem : Bool) (k : Key) → owns guid modem k ≡ true → owns guid (not modem) k ≡ false
unfolding owns
not-other guid true k h = ap not h
not-other guid false k h = not-true (modem_name guid k) h

-- so what is about one side's names is about none of the other's
about-other : (guid : List ℕ) (modem : Bool) (c : Change) → About guid modem c true → About guid (not modem) c false
about-other guid modem nothing o = tt
about-other guid modem (remove k) o = not-other guid modem k o
about-other guid modem (put v) o = not-other guid modem (key_of v) o

pub all-other : (guid : List ℕ) (modem : Bool) (cs : List Change) → AllAbout guid modem cs true → AllAbout guid (not modem) cs false
all-other guid modem [] o = tt
all-other guid modem (c ∷ cs) o = (about-other guid modem c o.0, all-other guid modem cs o.1)

-- key names, PlatMode and error records are ours
pub key-ours : (guid : List ℕ) (k : Key) → is_key_name_def k ≡ true → modem_name guid k ≡ false
unfolding modem_name
key-ours guid k named = rw named (go (same k.vendor guid))
  where
    go : (a : Bool) → (a && false && not (same_key_def k key_mode) && not (record_name k)) ≡ false
    go true = refl
    go false = refl

pub mode-name-ours : (guid : List ℕ) → modem_name guid key_mode ≡ false
unfolding modem_name
mode-name-ours guid = rw (key-refl key_mode) (go (same key_mode.vendor guid) (is_key_name_def key_mode))
  where
    go : (a b : Bool) → (a && not b && false && not (record_name key_mode)) ≡ false
    go true true = refl
    go true false = refl
    go false b = refl

pub record-ours : (guid : List ℕ) (k : Key) → record_name k ≡ true → modem_name guid k ≡ false
unfolding modem_name
record-ours guid k named = rw named (go (same k.vendor guid) (is_key_name_def k) (same_key_def k key_mode))
  where
    go : (a b c : Bool) → (a && not b && not c && false) ≡ false
    go true true c = refl
    go true false true = refl
    go true false false = refl
    go false b c = refl

pub ours-only : (guid : List ℕ) (modem : Bool) (k : Key) → owns guid modem k ≡ true → modem_name guid k ≡ false → modem ≡ false
unfolding owns
ours-only guid true k own h = absurd (false≢true (sym h ∙ own))
ours-only guid false k own h = refl

pub ours-own : (guid : List ℕ) (k : Key) → modem_name guid k ≡ false → owns guid false k ≡ true
unfolding owns
ours-own guid k h = ap not h

pub pk-ours : (guid : List ℕ) → owns guid false key_pk ≡ true
unfolding is_key_name_def
pk-ours guid = ours-own guid key_pk (key-ours guid key_pk (rw (key-refl key_pk)))

pub mode-ours : (guid : List ℕ) → owns guid false key_mode ≡ true
mode-ours guid = ours-own guid key_mode (mode-name-ours guid)

-- so who owns PK owns PlatMode, and the other way round
pub with_mode : (guid : List ℕ) (modem : Bool) → owns guid modem key_pk ≡ true → owns guid modem key_mode ≡ true
unfolding is_key_name_def
with_mode guid modem o = rw (ours-only guid modem key_pk o (key-ours guid key_pk (rw (key-refl key_pk)))) (mode-ours guid)

pub with-pk : (guid : List ℕ) (modem : Bool) → owns guid modem key_mode ≡ true → owns guid modem key_pk ≡ true
with-pk guid modem o = rw (ours-only guid modem key_mode o (mode-name-ours guid)) (pk-ours guid)
