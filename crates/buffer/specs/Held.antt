-- What a buffer holds, and what is kept of its fields.
use Rattle.std.specs.Prelude.{◌≡◌, ℕ, ◌-◌, ◌≤◌, List, ◌++◌, length, take, replicate}

-- the bytes that are held: the first of the array
abbrev pub held : ℕ → List ℕ → List ℕ
held count bytes = take count bytes

-- an array of n bytes that begins with those held, and is zero behind them
abbrev pub put_back : ℕ → List ℕ → List ℕ
put_back n xs = xs ++ replicate (n - length xs) 0

-- what is kept of the fields: the array is that of the bytes held, of which there are at most n
pub record Fields (n count : ℕ) (bytes : List ℕ) : Type 0 where
  pub within : count ≤ n
  pub counted : length (held count bytes) ≡ count
  pub rest : put_back n (held count bytes) ≡ bytes
