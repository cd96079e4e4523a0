-- What a result reveals of other applications.
use Rattle.std.proofs.Common.{◌≡◌, ℕ, Bool, true, false, refl}
use Rattle.ck_types.specs.declared.user_type.UserType.{UserType}
use Rattle.keep.specs.Contents.{Contents}
use Rattle.mech.specs.declared.job.Job.{Job}
use Rattle.mech.specs.declared.work.Work.{Work}
use Rattle.mech.specs.declared.work.Work.TheVariants.{Cipher, Take, Sign, Verify, Wrap, Unwrap, CheckPin, MakePin, ChangePin, InitToken, ResetToken}
use Rattle.mech.specs.Works.{is_pin_work}
use Rattle.model_views.specs.Answering.{Reveal}
use Rattle.model_worlds.specs.Worlds.{reveal_by_outcome, value_of}
use Rattle.serve_base.specs.Shown.{objects_of, task_of}
use Rattle.model_runs.specs.Applications.{reveal_by_job}

abbrev reveal_by_work : Work → (UserType → ℕ) → Bool → Contents → Reveal
reveal_by_work work under_way in_session c =
    reveal_by_outcome (task_of work) (value_of (task_of work)) (objects_of c) under_way in_session

-- that of work on no PIN reveals nothing of them
no_pin : (work : Work) (f g : UserType → ℕ) (b d : Bool) → is_pin_work work ≡ false → reveal_by_work work f b ≡ reveal_by_work work g d
no_pin (Cipher stream part input) f g b d is = refl
no_pin (Take place mac input) f g b d is = refl
no_pin (Sign mac input) f g b d is = refl
no_pin (Verify mac input signature) f g b d is = refl
no_pin (Wrap key value) f g b d is = refl
no_pin (Unwrap key bytes state template random) f g b d is = refl
no_pin (CheckPin who verifier pin) f g b d is = let k : true ≡ false = is in cc
no_pin (MakePin pin salt) f g b d is = let k : true ≡ false = is in cc
no_pin (ChangePin who verifier pin new_pin salt) f g b d is = let k : true ≡ false = is in cc
no_pin (InitToken label pin salt) f g b d is = let k : true ≡ false = is in cc
no_pin (ResetToken label verifier pin) f g b d is = let k : true ≡ false = is in cc

pub no-pin : (job : Job) (f g : UserType → ℕ) (b d : Bool) → is_pin_work job.work.value ≡ false → reveal_by_job job f b ≡ reveal_by_job job g d
no-pin job f g b d is = no_pin job.work.value f g b d is
