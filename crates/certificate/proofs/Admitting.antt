-- What holds of every count holds where there is one.
use Rattle.std.proofs.Common.{◌≡◌, ℕ, true, is_ok, Ok, Err, Result, refl, arith}
use Rattle.dossier.specs.declared.fault.AdmitFault.{AdmitFault}

pub if_ok : {P : Type 0} (r : Result ℕ AdmitFault) → ((n : ℕ) → r ≡ Ok n → P) → is_ok r ≡ true → P
if_ok (Ok n) h e = h n refl
if_ok (Err f) h e = absurd (let z : ◌≡◌ {A = ℕ} 0 1 = cc in omega arith)
