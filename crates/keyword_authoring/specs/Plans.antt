-- Keywords that describe by a plan how they evaluate an instance: they report an error or none, or
-- pass on the answers to their questions, or require that the number of accepted questions is
-- within bounds. Their kind follows from the plan.
use Rattle.std.specs.Prelude.{Bool, List, None, Option, Some, false, if◌then◌else◌, min, nat_le, true, ℕ, ◌+◌, ◌≡◌}
use Rattle.theory_definitions.specs.Instance.{Subject, Text}
use Rattle.theory_definitions.specs.Keywords.{Question}
use Rattle.keyword_authoring.specs.declared.planned.Asks.{Asks}
use Rattle.keyword_authoring.specs.declared.planned.Asks.TheVariants.{Children, Items, Members}
use Rattle.keyword_authoring.specs.declared.planned.Plan.{Plan}
use Rattle.keyword_authoring.specs.declared.planned.Plan.TheVariants.{AtLeast, Holds, PassesOn, Within}
use Rattle.keyword_authoring.specs.declared.planned.Wanted.{Wanted}
use Rattle.keyword_authoring.specs.Items.{child_here, each_from, first_at_item, item_count}
use Rattle.keyword_authoring.specs.Members.{first_at_member, member_count, name_at}
use Rattle.keyword_authoring.specs.OwnWays.{AlwaysPresent, judge_way, leaf_way}
use Rattle.keyword_authoring.specs.Places.{AsksPresent, children_present, items_present, members_present, nothing_asked}
use Rattle.keyword_authoring.specs.Ways.{Way, passes_on, questions}

-- the question with a number
abbrev pub question_of : Asks → Subject → ℕ → Question
question_of (Children n) s i = child_here i
question_of Items s i = first_at_item i
question_of Members s i = first_at_member (name_at s i)

-- the number of questions
abbrev pub asks_count : Asks → Subject → ℕ
asks_count (Children n) s = n
asks_count Items s = item_count s
asks_count Members s = member_count s

abbrev pub asks_of : Asks → Subject → List Question
asks_of asks s = each_from (question_of asks s) 0 (asks_count asks s)

-- whether a number is within the upper bound, if there is one
abbrev pub is_under : Option ℕ → ℕ → Bool
is_under None n = true
is_under (Some most) n = nat_le n most

-- whether this number of accepted questions is within the bounds
abbrev pub is_wanted : ℕ → Option ℕ → ℕ → Bool
is_wanted least most n = if is_under most n then nat_le least n else false

-- the number of accepted questions after which further ones change nothing, out of this many
-- questions
abbrev pub enough_of : ℕ → Option ℕ → ℕ → ℕ
enough_of least None count = least
enough_of least (Some most) count = min (most + 1) count

-- an error if the number of accepted questions is below `least` or above the upper bound; its text
-- is made from that number, where one past the bound stands for any number above it
abbrev pub wanting_way : Text → (ℕ → Text) → ℕ → Option ℕ → ℕ → List Question → Way
wanting_way name text least most count qs = judge_way name (enough_of least most count) true (is_wanted least most) text qs

-- an error that is reported before anything is asked has the text for no accepted question
abbrev pub way_by : Text → (ℕ → Text) → Subject → Plan → Way
way_by name text s (Holds holds) = leaf_way name holds (text 0)
way_by name text s (PassesOn asks) = passes_on (asks_of asks s)
way_by name text s (AtLeast asks least) = wanting_way name text least None (asks_count asks s) (asks_of asks s)
way_by name text s (Within asks least most) = wanting_way name text least (Some most) (asks_count asks s) (asks_of asks s)

-- whether one more accepted question never turns a keyword with this plan from accepting to
-- refusing, whatever it asks
abbrev pub plan_says_monotone : Plan → Bool
plan_says_monotone (Holds holds) = true
plan_says_monotone (PassesOn asks) = true
plan_says_monotone (AtLeast asks least) = true
plan_says_monotone (Within asks least most) = false

-- a choice between two plans has this property if both of them have it
pub either_says_monotone : (b : Bool) (p q : Plan) → plan_says_monotone p ≡ true → plan_says_monotone q ≡ true → plan_says_monotone (if b then p else q) ≡ true
either_says_monotone true p q one other = one
either_says_monotone false p q one other = other

asks_present : (s : Subject) (asks : Asks) → AsksPresent s (asks_of asks s)
asks_present s (Children n) = children_present s n
asks_present s Items = items_present s
asks_present s Members = members_present s

plan_present : (name : Text) (text : ℕ → Text) (s : Subject) (p : Plan) → AsksPresent s (questions (way_by name text s p))
plan_present name text s (Holds holds) = nothing_asked s
plan_present name text s (PassesOn asks) = asks_present s asks
plan_present name text s (AtLeast asks least) = asks_present s asks
plan_present name text s (Within asks least most) = asks_present s asks

module _ {M : Type 0} (plan : M → Subject → Plan) (name : M → Text) (text : M → Subject → ℕ → Text) where
  -- the kind of each keyword
  abbrev pub plan_ways : M → Subject → Way
  plan_ways m s = way_by (name m) (text m s) s (plan m s)

  pub plans_present : AlwaysPresent plan_ways
  plans_present m s = plan_present (name m) (text m s) s (plan m s)

module _ {M : Type 0} (name : M → Text) (text : M → Subject → ℕ → Text) where
  -- a keyword asks nothing, and if it refuses it reports its error for this number of accepted
  -- questions
  abbrev pub error_ways : Bool → ℕ → M → Subject → Way
  error_ways holds accepted m s = leaf_way (name m) holds (text m s accepted)

  -- a keyword requires a number of accepted questions within bounds
  abbrev pub wanting_ways : Wanted → M → Subject → Way
  wanting_ways w m s = wanting_way (name m) (text m s) w.least w.most (asks_count w.asks s) (asks_of w.asks s)
