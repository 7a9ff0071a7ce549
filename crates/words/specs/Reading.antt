-- What reading from the front of a list of bytes finds, in terms of the format.
use Rattle.std.specs.Prelude.{◌≡◌, ℕ, ◌+◌, ◌≤◌, List, [], ◌++◌, length, None, Some, Ok, Err, Option, Result, ◌≢◌}
use Rattle.calls.specs.Calls.{call_with}
use Rattle.calls.specs.declared.call.Call.{Call}
use Rattle.calls.specs.declared.call.Call.TheVariants.{Create}
use Rattle.calls.specs.declared.refusal.Refusal.{Refusal}
use Rattle.calls.specs.declared.refusal.Refusal.TheVariants.{Unlawful}
use Rattle.words.specs.Format.{call_words, data_word, length_in}

-- what reading finds: that there are no words, or an item and the rest of the words, or a refusal
abbrev pub Reading : Type 0 → Type 0 → Type 0
Reading X R = Result (Option (X × R)) Refusal

-- a reading with f of what was found and g of the rest
abbrev pub reading_with : {X Y R S : Type 0} → (X → Y) → (R → S) → Result (Option (X × R)) Refusal → Result (Option (Y × S)) Refusal
reading_with f g (Ok None) = Ok None
reading_with f g (Ok (Some found)) = Ok (Some (f found.0, g found.1))
reading_with f g (Err refusal) = Err refusal

-- what is found takes at least a word, so reading on comes to an end
abbrev pub Shorter : {X : Type 0} → List ℕ → Result (Option (X × List ℕ)) Refusal → Type 0
Shorter bytes (Ok (Some found)) = length found.1 + 4 ≤ length bytes
Shorter bytes r = Unit {0}

-- a call can be written: a word has place for the length of its text or read
abbrev pub Writable : Call (List ℕ) → Type 0
Writable c = length_in (call_with length c) ≤ 255

-- nothing is there; or what is there is the words of the call and the rest; or it begins with the words of no call, and
-- is refused as unlawful
abbrev pub ReadsCall : List ℕ → Reading (Call (List ℕ)) (List ℕ) → Type 0
ReadsCall bytes (Ok None) = bytes ≡ []
ReadsCall bytes (Ok (Some found)) = (bytes ≡ call_words found.0 ++ found.1) × Writable found.0
ReadsCall bytes (Err refusal) = (refusal ≡ Unlawful) × (bytes ≢ []) × ((c : Call (List ℕ)) (rest : List ℕ) → bytes ≢ call_words c ++ rest)

-- what the words of a call and a rest are read as: that call and that rest, and no other
abbrev pub OneCall : Type 0
OneCall = (c : Call (List ℕ)) (rest : List ℕ) (r : Reading (Call (List ℕ)) (List ℕ)) → ReadsCall (call_words c ++ rest) r → r ≡ Ok (Some (c, rest))

-- a create with a start address and a message that stand in two data words before the rest
pub record CreateRead {T : Type 0} (id level : ℕ) (bytes : List ℕ) (c : Call T) (rest : List ℕ) : Type 0 where
  pub start : ℕ
  pub message : ℕ
  pub is : c ≡ Create id level start message
  pub words : bytes ≡ (data_word start ++ data_word message) ++ rest
