-- The words of a call: its first word, and what its data words tell.
use Rattle.std.proofs.Common.{◌≡◌, ℕ, ◌/◌, ◌%◌, ◌<◌, ◌≤◌, ◌⊎◌, List, [], ◌∷◌, ◌++◌, length, Some, None, Ok, Err, sym, refl, ap, ◌∙◌, inl, inr, ⊎_elim, append_assoc, arith}
use Rattle.calls.specs.Calls.{call_text, call_with, MapsText}
use Rattle.calls.specs.declared.call.Call.{Call}
use Rattle.calls.specs.declared.call.Call.TheVariants.{Create, Transfer}
use Rattle.calls.specs.declared.call.Transfer.TheVariants as moves
use Rattle.std.proofs.lemmas.List.{drop_at, length-append, nil_from_length, take_at}
use Rattle.calls.specs.declared.refusal.Refusal.TheVariants.{NoRoom}
use Rattle.std.proofs.lemmas.Bool.Decides.{nat_tests}
use Rattle.words.specs.Format.{call_words, data_word, data_words, first_word, length_in, text_words}
use Rattle.words.specs.Heads.{bare, word_bytes}
use Rattle.words.specs.Reading.{OneCall, Reading, ReadsCall, Shorter, Writable}
use Rattle.words.specs.Text.{text_length}
use Rattle.words.specs.Writing.{told_call, told_writing, words_size}
use Rattle.words.proofs.FirstWords.{about_head, same_head}
use Rattle.words.proofs.Texts.{length-text}

-- lists that begin alike
pub split-same : (xs ys zs ws : List ℕ) → length xs ≡ length zs → xs ++ ys ≡ zs ++ ws → (xs ≡ zs) × (ys ≡ ws)
split-same xs ys zs ws k e =
    let a = take_at xs ys (length xs) refl in
    let b = take_at zs ws (length xs) (sym k) in
    let c = drop_at xs ys (length xs) refl in
    let d = drop_at zs ws (length xs) (sym k) in
    ((cc), (cc))

-- where the words of a call begin with four bytes, those are its first word, and its data words follow
pub begins : (c : Call (List ℕ)) (more four rest : List ℕ) → length four ≡ 4 → call_words c ++ more ≡ four ++ rest → (first_word (call_with length c) ≡ four) × (data_words c ++ more ≡ rest)
begins c more four rest k e =
    let n = (about_head (call_with length c)).0 in
    split-same (first_word (call_with length c)) (data_words c ++ more) four rest (n ∙ sym k) (sym (append_assoc (first_word (call_with length c)) (data_words c) more) ∙ e)

-- the data words of a call: those of a text, or a start address and a message
pub record Texted (c : Call (List ℕ)) : Type 0 where
  pub text : List ℕ
  pub size : length text ≡ text_length (bare (call_with length c))
  pub words : data_words c ≡ text_words text
  pub whole : c ≡ call_with (λ _. text) (bare (call_with length c))

pub record Created (c : Call (List ℕ)) : Type 0 where
  pub id : ℕ
  pub level : ℕ
  pub start : ℕ
  pub message : ℕ
  pub is : c ≡ Create id level start message

pub data_of : (c : Call (List ℕ)) → Texted c ⊎ Created c
data_of (Create id level start message) = inr (record { id = id; level = level; start = start; message = message; is = refl })
data_of (Transfer unit (moves.Write text)) = inl (record { text = text; size = refl; words = refl; whole = refl })
data_of (Transfer unit (moves.WriteLine text)) = inl (record { text = text; size = refl; words = refl; whole = refl })
data_of c = inl (record { text = []; size = refl; words = refl; whole = refl })

-- a call whose first word is known, with its text put in
pub filled : (h : Call ℕ) (text : List ℕ) → h ≡ bare h → ((id level start message : ℕ) → h ≡ Create id level start message → ⊥) → length text ≡ text_length h
    → (bare (call_with length (call_with (λ _. text) h)) ≡ h) × (data_words (call_with (λ _. text) h) ≡ text_words text)
filled (Create id level start message) text b other k = absurd (other id level start message refl)
filled (Transfer unit (moves.Write size)) text b other k = (ap (λ n. Transfer unit (moves.Write n)) k, refl)
filled (Transfer unit (moves.WriteLine size)) text b other k = (ap (λ n. Transfer unit (moves.WriteLine n)) k, refl)
filled h text b other k = (refl, ap text_words (sym (nil_from_length text k)))

-- one text put in after another way of holding it
pub with_with : {X Y Z : Type 0} (f : Y → Z) (g : X → Y) (c : Call X) → call_with f (call_with g c) ≡ call_with (λ x. f (g x)) c
with_with f g (Transfer unit (moves.Write text)) = refl
with_with f g c = refl

-- what maps a text as f does makes the call with f of its text
pub mapped : {X Y : Type 0} (f : X → Y) (makes : X → Y → Type 0) (c : Call X) (d : Call Y) → ((x : X) (y : Y) → makes x y → y ≡ f x) → MapsText call_with makes (call_text c) c d → d ≡ call_with f c
mapped f makes (Transfer unit (moves.Write text)) d h m = let e = h text m.0 m.1 in let k = m.2 in cc
mapped f makes (Transfer unit (moves.WriteLine text)) d h m = let e = h text m.0 m.1 in let k = m.2 in cc
mapped f makes c d h m = m f

-- reading ─────────────────────────────────────────────────────────────────────────────────────────────────────────

-- texts of one length with the same words are the same
pub same_text : (s t more rest : List ℕ) → length s ≡ length t → text_words s ++ more ≡ text_words t ++ rest → (s ≡ t) × (more ≡ rest)
same_text [] [] more rest k e = (refl, e)
same_text [] (x ∷ t) more rest k e = absurd (omega arith)
same_text (x ∷ s) [] more rest k e = absurd (omega arith)
same_text (a ∷ []) (x ∷ []) more rest k e = ((cc), (cc))
same_text (a ∷ []) (x ∷ y ∷ t) more rest k e = absurd (omega arith)
same_text (a ∷ b ∷ s) (x ∷ []) more rest k e = absurd (omega arith)
same_text (a ∷ b ∷ []) (x ∷ y ∷ []) more rest k e = ((cc), (cc))
same_text (a ∷ b ∷ []) (x ∷ y ∷ z ∷ t) more rest k e = absurd (omega arith)
same_text (a ∷ b ∷ c ∷ s) (x ∷ y ∷ []) more rest k e = absurd (omega arith)
same_text (a ∷ b ∷ c ∷ s) (x ∷ y ∷ z ∷ t) more rest k e =
    let tails : text_words s ++ more ≡ text_words t ++ rest = cc in
    let again = same_text s t more rest (omega arith) tails in
    ((cc), again.1)

-- a number is its two bytes
pub same_number : (m n : ℕ) → m / 256 ≡ n / 256 → m % 256 ≡ n % 256 → m ≡ n
same_number m n p q = omega arith

-- a call with a text whose first word is known: none is there, or this one
pub no_text : (head : Call ℕ) (bytes : List ℕ) → ((id level start message : ℕ) → head ≡ Create id level start message → ⊥) → ((t more : List ℕ) → length t ≡ text_length head → bytes ≡ text_words t ++ more → ⊥)
    → (c : Call (List ℕ)) (more : List ℕ) → bare (call_with length c) ≡ head → bytes ≡ data_words c ++ more → ⊥
no_text head bytes other none c more b e =
    ⊎_elim
    (λ (t : Texted c). none t.text more (t.size ∙ ap text_length b) (e ∙ ap (λ d. d ++ more) t.words))
    (λ (t : Created c). other t.id t.level 0 0 (sym b ∙ ap (λ d. bare (call_with length d)) t.is))
    (data_of c)

pub this_text : {T : Type 0} (f : T → List ℕ) (head : Call ℕ) (text : T) (call : Call T) (bytes rest : List ℕ) → head ≡ bare head → ((id level start message : ℕ) → head ≡ Create id level start message → ⊥) → length (f text) ≡ text_length head
    → call ≡ call_with (λ _. text) head → bytes ≡ text_words (f text) ++ rest
    → (bare (call_with length (call_with f call)) ≡ head) × (bytes ≡ data_words (call_with f call) ++ rest)
this_text f head text call bytes rest b other k is e =
    let c : call_with f call ≡ call_with (λ _. f text) head = ap (call_with f) is ∙ with_with f (λ _. text) head in
    let p = filled head (f text) b other k in
    (ap (λ d. bare (call_with length d)) c ∙ p.0, e ∙ ap (λ d. d ++ rest) (sym p.1) ∙ sym (ap (λ d. data_words d ++ rest) c))

-- a call has at least one word
too_short : (bytes : List ℕ) → length bytes < 4 → (c : Call (List ℕ)) (more : List ℕ) → bytes ≡ call_words c ++ more → ⊥
too_short bytes s c more e =
    let k = (about_head (call_with length c)).0 in
    let l = ap length e in
    let m = length-append (call_words c) more in
    let n = length-append (first_word (call_with length c)) (data_words c) in
    omega arith

-- a call whose first word is known is not there if its data words are not
pub no_call : (bytes rest : List ℕ) (w : ℕ) (head : Call ℕ) → bytes ≡ word_bytes w ++ rest → first_word head ≡ word_bytes w → head ≡ bare head
    → ((c : Call (List ℕ)) (more : List ℕ) → bare (call_with length c) ≡ head → rest ≡ data_words c ++ more → ⊥)
    → (c : Call (List ℕ)) (more : List ℕ) → bytes ≡ call_words c ++ more → ⊥
no_call bytes rest w head b h bare-is none c more e =
    let s = begins c more (word_bytes w) rest refl (sym e ∙ b) in
    none c more (same_head (call_with length c) head (s.0 ∙ sym h) ∙ sym bare-is) (sym s.1)

-- the words of a call are read as that call
created_too : (c : Call (List ℕ)) (id level : ℕ) → bare (call_with length c) ≡ Create id level 0 0 → (start : ℕ) × (message : ℕ) × (c ≡ Create id level start message)
created_too c id level b =
    ⊎_elim
    (λ (t : Texted c). (0, 0, t.whole ∙ ap (call_with (λ _. t.text)) b))
    (λ (t : Created c).
    let i = ap (λ d. bare (call_with length d)) t.is in
    let is = t.is in
    (t.start, t.message, (cc)))
    (data_of c)

same_created : (c d : Call (List ℕ)) (more rest : List ℕ) (id level start message : ℕ) → c ≡ Create id level start message → bare (call_with length c) ≡ bare (call_with length d) → data_words c ++ more ≡ data_words d ++ rest → (c ≡ d) × (more ≡ rest)
same_created c d more rest id level start message is b e =
    let t = created_too d id level (sym b ∙ ap (λ x. bare (call_with length x)) is) in
    let f : (data_word start ++ data_word message) ++ more ≡ (data_word t.0 ++ data_word t.1) ++ rest =
    ap (λ x. data_words x ++ more) (sym is) ∙ e ∙ ap (λ x. data_words x ++ rest) t.2 in
    let s : start ≡ t.0 = same_number start t.0 (cc) (cc) in
    let m : message ≡ t.1 = same_number message t.1 (cc) (cc) in
    let d-is = t.2 in
    ((cc), (cc))

same_data : (c d : Call (List ℕ)) (more rest : List ℕ) → bare (call_with length c) ≡ bare (call_with length d) → data_words c ++ more ≡ data_words d ++ rest → (c ≡ d) × (more ≡ rest)
same_data c d more rest b e =
    ⊎_elim
    (λ (s : Texted c).
    ⊎_elim
    (λ (t : Texted d).
    let k : length s.text ≡ length t.text = s.size ∙ ap text_length b ∙ sym t.size in
    let p = same_text s.text t.text more rest k (ap (λ x. x ++ more) (sym s.words) ∙ e ∙ ap (λ x. x ++ rest) t.words) in
    (s.whole ∙ ap (call_with (λ _. s.text)) b ∙ ap (λ x. call_with (λ _. x) (bare (call_with length d))) p.0 ∙ sym t.whole, p.1))
    (λ (t : Created d).
    let p = same_created d c rest more t.id t.level t.start t.message t.is (sym b) (sym e) in
    (sym p.0, sym p.1))
    (data_of d))
    (λ (s : Created c). same_created c d more rest s.id s.level s.start s.message s.is b e)
    (data_of c)

pub shorter : (bytes : List ℕ) (r : Reading (Call (List ℕ)) (List ℕ)) → ReadsCall bytes r → Shorter bytes r
shorter bytes (Ok None) r = tt
shorter bytes (Err refusal) r = tt
shorter bytes (Ok (Some found)) r =
    let k = (about_head (call_with length found.0)).0 in
    let l = ap length r.0 in
    let m = length-append (call_words found.0) found.1 in
    let n = length-append (first_word (call_with length found.0)) (data_words found.0) in
    omega arith

pub one_call : OneCall
one_call c rest (Ok None) r = absurd (too_short [] (omega arith) c rest (sym r))
one_call c rest (Err refusal) r = absurd (r.2 c rest refl)
one_call c rest (Ok (Some (d, more))) r =
    let four = first_word (call_with length d) in
    let n = (about_head (call_with length d)).0 in
    let p = begins c rest four (data_words d ++ more) n (r.0 ∙ append_assoc four (data_words d) more) in
    let q = same_data c d rest more (same_head (call_with length c) (call_with length d) p.0) p.1 in
    let u = q.0 in
    let v = q.1 in
    cc

-- how many bytes a call takes, by its first word
pub words_size_lem : (c : Call (List ℕ)) → words_size (call_with length c) ≡ length (call_words c)
words_size_lem (Transfer unit (moves.Write text)) = let n = length-text text in omega arith
words_size_lem (Transfer unit (moves.WriteLine text)) = let n = length-text text in omega arith
words_size_lem c = refl

-- what is told where there is no room, and where there is
pub told-full : (words out : List ℕ) (n : ℕ) → n ≡ length words → length out < n → told_writing words out ≡ Err NoRoom
told-full words out n e f = grind (arith, nat_tests)

pub told-size : (words out : List ℕ) (n : ℕ) → n ≡ length words → n ≤ length out → told_writing words out ≡ Ok n
told-size words out n e f = grind (arith, nat_tests)

-- a call with a known head that can be written is written if there is room, and its size is the head's
pub told-call : (c : Call (List ℕ)) (h : Call ℕ) (out : List ℕ) (n : ℕ) → h ≡ call_with length c → length_in h ≤ 255 → n ≡ words_size h → (n ≡ length (call_words c)) × (told_call c out ≡ told_writing (call_words c) out)
told-call c h out n e w k =
    let short : Writable c = omega (arith, ap length_in e) in
    (k ∙ ap words_size e ∙ words_size_lem c, grind (arith, nat_tests))
