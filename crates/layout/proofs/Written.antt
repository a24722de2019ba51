-- A field's value and the number that is written for it.
use Rattle.std.proofs.Common.{◌≡◌, ℕ, ◌-◌, ◌^◌, ◌<◌, true, ltb, ℤ, pos, negsuc, refl, arith}
use Rattle.std.proofs.lemmas.Bool.{cond_both}
use Rattle.std.proofs.lemmas.Bool.Decides.{nat_tests}
use Rattle.layout.specs.declared.field.Digits.{Digits}
use Rattle.layout.specs.declared.field.Digits.TheVariants.{Two, Four, Eight, Value}
use Rattle.layout.specs.Cells.{writable}
use Rattle.layout.specs.Text.{digits_of, written}
use Rattle.layout.specs.Reading.{number_of}

-- the digits give back the number
pub written_number : (d : Digits) (n : ℕ) → n < 16 ^ digits_of d → written d (number_of d n) ≡ n
written_number Two n h = refl
written_number Four n h = cond_both (ltb n 32768) (pos n) (negsuc (65535 - n)) (λ z. written Four z ≡ n) (λ e. refl) (λ e. omega arith)
written_number Eight n h = refl
written_number Value n h = cond_both (ltb n 2147483648) (pos n) (negsuc (4294967295 - n)) (λ z. written Value z ≡ n) (λ e. refl) (λ e. omega arith)

pub written_small : (d : Digits) (v : ℤ) → writable d v ≡ true → written d v < 16 ^ digits_of d
written_small Two (pos v) h = grind (arith, nat_tests)
written_small Two (negsuc v) h = grind (arith, nat_tests)
written_small Four (pos v) h = grind (arith, nat_tests)
written_small Four (negsuc v) h = grind (arith, nat_tests)
written_small Eight (pos v) h = grind (arith, nat_tests)
written_small Eight (negsuc v) h = grind (arith, nat_tests)
written_small Value (pos v) h = grind (arith, nat_tests)
written_small Value (negsuc v) h = grind (arith, nat_tests)

pub number_written : (d : Digits) (v : ℤ) → writable d v ≡ true → number_of d (written d v) ≡ v
number_written Two (pos v) h = refl
number_written Two (negsuc v) h = grind (arith, nat_tests)
number_written Four (pos v) h = grind (arith, nat_tests)
number_written Four (negsuc v) h = grind (arith, nat_tests)
number_written Eight (pos v) h = refl
number_written Eight (negsuc v) h = grind (arith, nat_tests)
number_written Value (pos v) h = grind (arith, nat_tests)
number_written Value (negsuc v) h = grind (arith, nat_tests)
