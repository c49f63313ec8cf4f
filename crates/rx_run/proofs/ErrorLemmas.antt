-- What holds of an answer's error.
use Rattle.std.proofs.Common.{◌≡◌, IfErr, IsErrAnd, OnOk, Result, Ok, Err, subst, sym}

-- what holds of any error holds of this one
pub if_err_any : {X E : Type 0} (r : Result X E) (P : E → Type 0) → ((e : E) → P e) → IfErr r P
if_err_any (Ok x) P h = tt
if_err_any (Err e) P h = h e

-- what holds of an error, where it is this one
pub if_err_at : {X E : Type 0} (r : Result X E) (P : E → Type 0) (x : E) → IsErrAnd r (λ e. e ≡ x) → P x → IfErr r P
if_err_at (Ok y) P x h p = tt
if_err_at (Err e) P x h p = subst P (sym h) p

-- what holds holds at a value too
pub on_ok_any : {X E : Type 0} {P : Type 0} (r : Result X E) → P → OnOk r P
on_ok_any (Ok x) h = h
on_ok_any (Err e) h = tt

-- what follows from what holds at a value holds there too
pub on_ok_of : {X E : Type 0} {P Q : Type 0} (r : Result X E) → (P → Q) → OnOk r P → OnOk r Q
on_ok_of (Ok x) f h = f h
on_ok_of (Err e) f h = tt
