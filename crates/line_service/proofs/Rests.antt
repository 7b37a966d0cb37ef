-- The rest of a chunk, one line and its byte 10 on.
use Rattle.std.proofs.Common.{◌≡◌, ℕ, ◌+◌, ◌-◌, ◌<◌, ◌≤◌, List, [], ◌∷◌, ◌++◌, length, get_or, take, drop, sym, ap, ◌∙◌, arith, length-drop}
use Rattle.std.proofs.lemmas.List.{take_rest, take_more, drop-drop, get_or-drop}

-- how many bytes are behind
pub past_more : (chunk rest : List ℕ) (end : ℕ) → length rest ≤ length chunk → end < length rest → length chunk - length (take (length rest - (end + 1)) (drop (end + 1) rest)) ≡ length chunk - length rest + end + 1
past_more chunk rest end within inside =
    omega (arith, ap length (take_rest rest (end + 1)), length-drop (end + 1) rest)

pub rest_more : (chunk rest : List ℕ) (end : ℕ) → length rest ≤ length chunk → end < length rest → rest ≡ drop (length chunk - length rest) chunk → take (length rest - (end + 1)) (drop (end + 1) rest) ≡ drop (length chunk - length (take (length rest - (end + 1)) (drop (end + 1) rest))) chunk
rest_more chunk rest end within inside behind =
    take_rest rest (end + 1) ∙ ap (drop (end + 1)) behind ∙ drop-drop (end + 1) (length chunk - length rest) chunk ∙ ap (λ n. drop n chunk) (omega (arith, past_more chunk rest end within inside))

-- the byte that ended the line
pub byte_more : (chunk rest : List ℕ) (past end byte : ℕ) → rest ≡ drop past chunk → end < length rest → get_or rest end 0 ≡ byte → take (past + end + 1) chunk ≡ take (past + end) chunk ++ (byte ∷ [])
byte_more chunk rest past end byte behind inside is =
    let within : past + end < length chunk = omega (arith, ap length behind, length-drop past chunk) in
    let here : get_or chunk (past + end) 0 ≡ byte = sym (get_or-drop past chunk end 0) ∙ ap (λ r. get_or r end 0) (sym behind) ∙ is in
    take_more chunk (past + end) 0 within ∙ ap (λ b. take (past + end) chunk ++ (b ∷ [])) here
