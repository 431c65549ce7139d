-- Addresses as words.
use Rattle.std.specs.Prelude.{◌≡◌, ◌≤◌, ◌<◌, ℕ, List, [], ◌∷◌, ◌++◌}
use Rattle.std.specs.Fmt.{decimal}
use Rattle.hc_wire.specs.declared.event.Address.{Address}

-- the text begins with this number, which is below 256, and this byte, and goes on so
abbrev pub Begins : ℕ → List ℕ → ℕ → List ℕ → Type 0
Begins end text n rest = (n ≤ 255) × (text ≡ decimal n ++ end ∷ rest)

-- it is the plain decimal of a port
abbrev pub IsPort : List ℕ → ℕ → Type 0
IsPort text port = (0 < port) × (port ≤ 65535) × (text ≡ decimal port)

-- four numbers with dots, a colon and a port
pub record IsAddress (text : List ℕ) (a : Address) : Type 0 where
  pub one : ℕ
  pub two : ℕ
  pub three : ℕ
  pub four : ℕ
  pub octets : a.octets ≡ one ∷ two ∷ three ∷ four ∷ []
  pub below_one : one ≤ 255
  pub below_two : two ≤ 255
  pub below_three : three ≤ 255
  pub below_four : four ≤ 255
  pub port : (0 < a.port) × (a.port ≤ 65535)
  pub text_is : text ≡ decimal one ++ 46 ∷ (decimal two ++ 46 ∷ (decimal three ++ 46 ∷ (decimal four ++ 58 ∷ decimal a.port)))
