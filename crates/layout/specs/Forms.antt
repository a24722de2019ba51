-- The two forms: the number that a head has for each, and how it is called.
use Rattle.std.specs.Prelude.{◌≢◌, ◌≡◌, ℕ, List, Ok, Err, Result, codes}
use Rattle.layout.specs.declared.form.Form.{Form}
use Rattle.layout.specs.declared.form.UnknownForm.{UnknownForm}
use Rattle.layout.specs.declared.form.Form.TheVariants.{EveryRun, SomeRun}

abbrev pub form_number : Form → ℕ
form_number EveryRun = 1
form_number SomeRun = 2

abbrev pub form_name : Form → List ℕ
form_name EveryRun = codes "every-run"
form_name SomeRun = codes "some-run"

-- a word that is read as a form is how it is called, and any other word is how none is called
abbrev pub Named : List ℕ → Result Form UnknownForm → Type 0
Named word (Ok form) = word ≡ form_name form
Named word (Err e) = (form : Form) → word ≢ form_name form
