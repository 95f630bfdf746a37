-- What a many-get hands out: of each name what a get of it answers from the rest of the buffer, in numbers; and the buffer.
use Rattle.std.specs.Prelude.{ℕ, ◌≡◌, List, [], ◌∷◌, length, ltb}
use Rattle.std.proofs.Math.Option.{Option}
use Rattle.model.specs.Lists.{on_some}
use Rattle.model.specs.Name.{Key}
use Rattle.model.specs.Entry.{Value}
use Rattle.model.specs.Rules.{first_broken, get_rules, get_space, value_to_get}
use Rattle.model.specs.Answers.{done, refused, rule_number, answer_of, Reply, got_by, Gots, get_each_def}
use Rattle.model.specs.declared.View.{View}
use Rattle.model.specs.declared.Rule.{Rule}
use Rattle.model.specs.declared.Rule.TheVariants.{Name}
use Rattle.model.specs.declared.Answer.{Answer}
use Rattle.model.specs.declared.Got.{Got}
use Rattle.model.specs.Beside.{rule_told_def, Handed}

-- four numbers of what one get gave: the rule, size, attributes and the size needed
abbrev pub got_numbers : Got → List ℕ
got_numbers g = rule_told_def (answer_of g.answer) ∷ g.size ∷ g.attributes ∷ g.needed ∷ []

-- by what its session says to it, what a get of one name breaks first over a list of values, and what it replies
unfoldable pub one_broken : View → List Value → Key → List ℕ → Option Rule
one_broken v vs k buffer = first_broken (get_rules v.vendor v.modem v.runtime k buffer vs)

unfoldable pub one_reply : View → List Value → Key → List ℕ → Reply
one_reply v vs k buffer = got_by (one_broken v vs k buffer) (value_to_get v.runtime k vs) buffer

-- and one name after another
abbrev pub each_of : View → List Value → List Key → List ℕ → Gots
each_of v vs ks buffer = get_each_def (one_broken v vs) (one_reply v vs) ks buffer

-- after rules 1 and 2, rule 3 for more than 64 names; what is given then
unfoldable pub many_broken : List Key → Option Rule
many_broken ks = first_broken ((Name, ltb get_space (length ks)) ∷ [])

abbrev pub many_of : View → List Value → List Key → List ℕ → Gots
many_of v vs ks buffer = on_some (many_broken ks) (λ rule. record { items = []; buffer = buffer }) (each_of v vs ks buffer)

-- a many-get has answered so from a list of values
pub record AnsweredMany (v : View) (vs : List Value) (ks : List Key) (buffer told : List ℕ) (a : Answer) (told' buffer' : List ℕ) : Type 0 where
  pub answer : answer_of a ≡ on_some (many_broken ks) (λ rule. refused (rule_number rule)) (done 0)
  pub handed : Handed (many_of v vs ks buffer) told told' buffer'
