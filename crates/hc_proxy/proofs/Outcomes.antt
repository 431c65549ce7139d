-- What holds whatever the outcome is holds of it.
use Rattle.std.specs.Prelude.{Result, Ok, Err, OnOk}

pub on_ok : {T E : Type 0} (r : Result T E) (P : Type 0) → P → OnOk r P
on_ok (Ok x) P p = p
on_ok (Err e) P p = tt

pub on_both : {A E : Type 0} (r : Result A E) (P Q : Type 0) → OnOk r P → (P → Q) → OnOk r Q
on_both (Ok a) P Q p f = f p
on_both (Err e) P Q p f = tt

pub on_three : {A E : Type 0} (r : Result A E) (P Q R S : Type 0) → OnOk r P → OnOk r Q → OnOk r R → (P → Q → R → S) → OnOk r S
on_three (Ok a) P Q R S p q r f = f p q r
on_three (Err e) P Q R S p q r f = tt

pub ok_pair : {A E : Type 0} (r : Result A E) (P Q : Type 0) → OnOk r P → OnOk r Q → OnOk r (P × Q)
ok_pair (Ok a) P Q p q = (p, q)
ok_pair (Err e) P Q p q = tt
