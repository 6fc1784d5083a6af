-- Each kind of fault and each key has its words.
use Rattle.std.proofs.Common.{◌≡◌, ◌<◌, ℕ, length, true, refl, lit<}
use Rattle.std.specs.List.{list_all}
use Rattle.toml.proofs.OnLiterals.{toml_on_literals}
use Rattle.rational_theory.specs.Rational.{whole, over, quotient}
use Rattle.rational_theory.specs.Gcd.{gcd}
use Rattle.rational_theory.specs.Compare.{cmp_ℚ}
use Rattle.artery_model.specs.declared.kind.Kind.{Kind}
use Rattle.artery_model.specs.declared.kind.Kind.TheVariants.{NotUtf8, NotToml, UnknownKey, Missing, WrongType, BadNumber, OutOfRange, CountMismatch, RepeatedName, NoPattern, NoGreen, LimitsCrossed}
use Rattle.description_reader.specs.KeyTable.{keys_of}
use Rattle.description_reader.specs.declared.key_table.When.{When}
use Rattle.description_reader.specs.declared.key_table.When.TheVariants.{Always, First, Second, SpeedOut, TravelOut, SpeedIn, TravelIn}
use Rattle.description_reader.specs.declared.place.Section.{Section}
use Rattle.description_reader.specs.declared.place.Section.TheVariants.{Root, Artery, Signal, Link, PlanRoot, Plan}
use Rattle.fault_words.specs.Examples.{samples_of}
use Rattle.fault_words.specs.Promises.{AllHaveWords, has_words, has_its_unit, is_typed, is_limited, is_limited_but_signal}
use Rattle.fault_words.specs.Sentences.{kind_line, absent_line}
use Rattle.fault_words.specs.Wants.{sized_words}

kinds : (kind : Kind) → 0 < length (kind_line kind)
kinds NotUtf8 = lit< tt
kinds NotToml = lit< tt
kinds UnknownKey = lit< tt
kinds Missing = lit< tt
kinds WrongType = lit< tt
kinds BadNumber = lit< tt
kinds OutOfRange = lit< tt
kinds CountMismatch = lit< tt
kinds RepeatedName = lit< tt
kinds NoPattern = lit< tt
kinds NoGreen = lit< tt
kinds LimitsCrossed = lit< tt

reasons : (when : When) → 0 < length (absent_line when)
reasons Always = lit< tt
reasons First = lit< tt
reasons Second = lit< tt
reasons SpeedOut = lit< tt
reasons TravelOut = lit< tt
reasons SpeedIn = lit< tt
reasons TravelIn = lit< tt

typed : (section : Section) → list_all (is_typed section) (keys_of section) ≡ true
unfolding keys_of samples_of toml_on_literals
typed Root = refl
typed Artery = refl
typed (Signal i) = refl
typed (Link i) = refl
typed PlanRoot = refl
typed Plan = refl

artery : list_all (is_limited Artery) (keys_of Artery) ≡ true
unfolding keys_of samples_of toml_on_literals whole over quotient gcd cmp_ℚ
artery = refl

signal : (i : ℕ) → list_all (is_limited (Signal i)) (keys_of (Signal i)) ≡ true
unfolding keys_of samples_of toml_on_literals
signal i = refl

link : (i : ℕ) → list_all (is_limited (Link i)) (keys_of (Link i)) ≡ true
unfolding keys_of samples_of toml_on_literals whole over quotient gcd cmp_ℚ
link i = refl

plan : list_all (is_limited Plan) (keys_of Plan) ≡ true
unfolding keys_of samples_of toml_on_literals whole over quotient gcd cmp_ℚ
plan = refl

units : (section : Section) → list_all (has_its_unit section) (keys_of section) ≡ true
unfolding keys_of samples_of
units Root = refl
units Artery = refl
units (Signal i) = refl
units (Link i) = refl
units PlanRoot = refl
units Plan = refl

root : list_all is_limited_but_signal (keys_of Root) ≡ true
unfolding keys_of samples_of toml_on_literals
root = refl

plan_root : list_all (is_limited PlanRoot) (keys_of PlanRoot) ≡ true
unfolding keys_of samples_of toml_on_literals
plan_root = refl

wanted : (section : Section) → list_all has_words (keys_of section) ≡ true
unfolding keys_of sized_words
wanted Root = refl
wanted Artery = refl
wanted (Signal i) = refl
wanted (Link i) = refl
wanted PlanRoot = refl
wanted Plan = refl

pub all_have_words : AllHaveWords
all_have_words = record {
  kinds = kinds;
  reasons = reasons;
  wanted = wanted;
  typed = typed;
  units = units;
  root = root;
  artery = artery;
  signal = signal;
  link = link;
  plan_root = plan_root;
  plan = plan;
}
