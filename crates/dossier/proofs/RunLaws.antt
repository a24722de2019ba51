-- Admitted exactly when each test passes, and what admission buys.
use Rattle.std.proofs.Common.{◌≡◌, ℕ, List, Ok, ap}
use Rattle.dossier.specs.Admission.{Trial, first_failure, verdict, admit_every_run, admit_some_run, every_run_trials, some_run_trials, every_run_lines, some_run_lines}
use Rattle.dossier.specs.Laws.{AllPass, ExactlyLaw, ByTestsLaw, EveryRunTheorem, FollowsTheorem, SomeRunTheorem, FollowedTheorem}
use Rattle.dossier.proofs.Trials.{none_fails, all_passed, verdict_ok}
use Rattle.dossier.proofs.Tests.{every_run_each, every_run_all, some_run_each, some_run_all, admitted, refused}
use Rattle.dossier.proofs.LineCount.{every_run_counted, some_run_counted}
use Rattle.dossier.proofs.EveryRun.{every_run, watch_follows}
use Rattle.dossier.proofs.SomeRun.{some_run, followed_endless}

judged : (count n : ℕ) (ts : List Trial) → verdict count (first_failure ts) ≡ Ok n → (n ≡ count) × AllPass ts
judged count n ts h = let v = verdict_ok count n (first_failure ts) h in (v.0, none_fails ts v.1)

pub exactly_law : ExactlyLaw
unfolding admit_every_run admit_some_run
exactly_law kind cells = record {
  every_run = λ n h. judged (every_run_lines cells) n (every_run_trials cells kind) h;
  every_run_back = λ h. ap (verdict (every_run_lines cells)) (all_passed (every_run_trials cells kind) h);
  some_run = λ n h. judged (some_run_lines cells) n (some_run_trials cells kind) h;
  some_run_back = λ h. ap (verdict (some_run_lines cells)) (all_passed (some_run_trials cells kind) h);
}

pub by_tests_law : ByTestsLaw
unfolding admit_every_run admit_some_run
by_tests_law kind cells = record {
  every_run = admitted (every_run_lines cells) (every_run_trials cells kind) (every_run_each kind cells) (every_run_all kind cells);
  every_run_first = refused (every_run_lines cells) (every_run_trials cells kind) (every_run_each kind cells) (every_run_all kind cells);
  every_run_counted = every_run_counted kind cells;
  some_run = admitted (some_run_lines cells) (some_run_trials cells kind) (some_run_each kind cells) (some_run_all kind cells);
  some_run_first = refused (some_run_lines cells) (some_run_trials cells kind) (some_run_each kind cells) (some_run_all kind cells);
  some_run_counted = some_run_counted kind cells;
}

pub every_run_theorem : EveryRunTheorem
every_run_theorem kind lawful cells formed n admitted = every_run kind lawful cells formed ((exactly_law kind cells).every_run n admitted).1

pub follows_theorem : FollowsTheorem
follows_theorem kind lawful cells formed n admitted = watch_follows kind lawful cells formed ((exactly_law kind cells).every_run n admitted).1

pub some_run_theorem : SomeRunTheorem
some_run_theorem kind lawful cells formed n admitted = some_run kind lawful cells formed ((exactly_law kind cells).some_run n admitted).1

pub followed_theorem : FollowedTheorem
followed_theorem kind lawful cells formed n admitted = followed_endless kind lawful cells formed ((exactly_law kind cells).some_run n admitted).1
