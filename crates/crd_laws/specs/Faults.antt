-- That two faults are one is a proposition: the logic stores a fault as tuples of texts and numbers, and a case as a place in a sum.
use Rattle.std.specs.Prelude.{◌≡◌, ℕ, List, [], ◌∷◌, ◌⊎◌, slice_index_or, refl}
use mathlib.Core.Logic.{inl, inr}
use Rattle.std.specs.Coded.{Coded, Coded-set, code_by, coded_ℕ, coded_list, coded×, coded⊎}
use Rattle.kj_value.specs.declared.rule.Rule.{Rule}
use Rattle.kj_value.specs.declared.rule.Rule.TheVariants as rule
use Rattle.api_calls.specs.Cause.{WhyView, not_json, too_deep, not_whole, not_object, wrong_version, wrong_kind, wrong_namespace, wrong_name, bad_query, bad_token, bad_options}
use Rattle.api_calls.specs.Meaning.{Fault, bad_request, invalid}

-- ---- a number for each rule

abbrev rule_number : Rule → ℕ
rule_number rule.Kind = 0
rule_number rule.Enum = 1
rule_number rule.Minimum = 2
rule_number rule.Maximum = 3
rule_number rule.Format = 4
rule_number rule.MinLength = 5
rule_number rule.MaxLength = 6
rule_number rule.MinItems = 7
rule_number rule.MaxItems = 8
rule_number rule.Required = 9
rule_number rule.Name = 10
rule_number rule.Forbidden = 11
rule_number rule.Kept = 12
rule_number rule.Size = 13
rule_number rule.Immutable = 14
rule_number rule.Storage = 15
rule_number rule.Served = 16
rule_number rule.Unknown = 17
rule_number rule.Wrong = 18
rule_number rule.Converted = 19

-- the rules in the order of their numbers
abbrev rules : List Rule
rules =
    rule.Kind ∷ rule.Enum ∷ rule.Minimum ∷ rule.Maximum ∷ rule.Format ∷ rule.MinLength ∷ rule.MaxLength ∷ rule.MinItems ∷ rule.MaxItems
    ∷ rule.Required ∷ rule.Name ∷ rule.Forbidden ∷ rule.Kept ∷ rule.Size ∷ rule.Immutable ∷ rule.Storage ∷ rule.Served ∷ rule.Unknown
    ∷ rule.Wrong ∷ rule.Converted ∷ []

abbrev rule_back : ℕ → Rule
rule_back n = slice_index_or rules n rule.Wrong

rule_back-rule_number : (u : Rule) → rule_back (rule_number u) ≡ u
rule_back-rule_number rule.Kind = refl
rule_back-rule_number rule.Enum = refl
rule_back-rule_number rule.Minimum = refl
rule_back-rule_number rule.Maximum = refl
rule_back-rule_number rule.Format = refl
rule_back-rule_number rule.MinLength = refl
rule_back-rule_number rule.MaxLength = refl
rule_back-rule_number rule.MinItems = refl
rule_back-rule_number rule.MaxItems = refl
rule_back-rule_number rule.Required = refl
rule_back-rule_number rule.Name = refl
rule_back-rule_number rule.Forbidden = refl
rule_back-rule_number rule.Kept = refl
rule_back-rule_number rule.Size = refl
rule_back-rule_number rule.Immutable = refl
rule_back-rule_number rule.Storage = refl
rule_back-rule_number rule.Served = refl
rule_back-rule_number rule.Unknown = refl
rule_back-rule_number rule.Wrong = refl
rule_back-rule_number rule.Converted = refl

abbrev rule_code : Coded Rule
rule_code = code_by ℕ coded_ℕ rule_number rule_back rule_back-rule_number

-- ---- why a request is a bad one: a text where one is told, and else a number

abbrev why_case : WhyView → List ℕ ⊎ ℕ
why_case (bad_query parameter) = inl parameter
why_case not_json = inr 0
why_case too_deep = inr 1
why_case not_whole = inr 2
why_case not_object = inr 3
why_case wrong_version = inr 4
why_case wrong_kind = inr 5
why_case wrong_namespace = inr 6
why_case wrong_name = inr 7
why_case bad_token = inr 8
why_case bad_options = inr 9

-- those that tell no text, in the order of their numbers
abbrev whys : List WhyView
whys =
    not_json ∷ too_deep ∷ not_whole ∷ not_object ∷ wrong_version ∷ wrong_kind ∷ wrong_namespace ∷ wrong_name ∷ bad_token ∷ bad_options ∷ []

abbrev why_back : List ℕ ⊎ ℕ → WhyView
why_back (inl parameter) = bad_query parameter
why_back (inr n) = slice_index_or whys n bad_options

why_back-why_case : (w : WhyView) → why_back (why_case w) ≡ w
why_back-why_case (bad_query parameter) = refl
why_back-why_case not_json = refl
why_back-why_case too_deep = refl
why_back-why_case not_whole = refl
why_back-why_case not_object = refl
why_back-why_case wrong_version = refl
why_back-why_case wrong_kind = refl
why_back-why_case wrong_namespace = refl
why_back-why_case wrong_name = refl
why_back-why_case bad_token = refl
why_back-why_case bad_options = refl

abbrev why_code : Coded WhyView
why_code = code_by (List ℕ ⊎ ℕ) (coded⊎ (coded_list coded_ℕ) coded_ℕ) why_case why_back why_back-why_case

-- ---- faults

abbrev Cases : Type 0
Cases = WhyView ⊎ (List ℕ × (List ℕ × Rule))

abbrev cases : Fault → Cases
cases (bad_request why) = inl why
cases (invalid name cause) = inr (name, (cause.field, cause.rule))

abbrev fault_back : Cases → Fault
fault_back (inl why) = bad_request why
fault_back (inr c) = invalid c.0 (record { field = c.1.0; rule = c.1.1 })

fault_back-cases : (f : Fault) → fault_back (cases f) ≡ f
fault_back-cases (bad_request why) = refl
fault_back-cases (invalid name cause) = refl

abbrev fault_code : Coded Fault
fault_code =
    code_by Cases (coded⊎ why_code (coded× (coded_list coded_ℕ) (coded× (coded_list coded_ℕ) rule_code))) cases fault_back fault_back-cases

pub Fault-set : IsSet Fault
Fault-set = Coded-set fault_code
