-- Trying more parameters never makes a frame longer.
use Rattle.std.proofs.Common.{◌≡◌, ℕ, ◌≤◌, List, [], ◌∷◌, ◌++◌, length, map, fold, refl, ap, sym, ◌∙◌, subst}
use Rattle.std.proofs.lemmas.List.{map-append}
use Rattle.dst_spec.specs.Sample.{Shape}
use Rattle.dst_spec.specs.Header.{Params}
use Rattle.dst_spec.specs.Spell.{spell, shorter, stored}
use Rattle.dst_spec.proofs.Spelling.{fold-length}
use Rattle.level_spec.specs.Picks.{per_channel, shared, orders, refined_shared, refined_own, refined_own_with_one_table, level_picks}

fold-append : {A B : Type 0} (f : B → A → B) (b : B) (xs ys : List A) → fold f b (xs ++ ys) ≡ fold f (fold f b xs) ys
fold-append f b [] ys = refl
fold-append f b (x ∷ xs) ys = fold-append f (f b x) xs ys

-- parameters behind others
pub stored-more : (f : Shape) (sound : List ℕ) (list more : List Params) → length (stored f sound (list ++ more)) ≤ length (stored f sound list)
stored-more f sound list more =
    let tried : Params → List ℕ = λ P. spell f P sound in
    let e : stored f sound (list ++ more) ≡ fold shorter (stored f sound list) (map tried more) =
    ap (fold shorter (0 ∷ sound)) (map-append tried list more) ∙ fold-append shorter (0 ∷ sound) (map tried list) (map tried more) in
    subst (λ frame. length frame ≤ length (stored f sound list)) (sym e) (fold-length (stored f sound list) (map tried more))

pub never_longer : (sound : List ℕ) (f : Shape) → length (stored f sound (level_picks 3 sound f)) ≤ length (stored f sound (level_picks 2 sound f))
unfolding level_picks
never_longer sound f =
    stored-more f sound (map (per_channel f sound) orders ++ map (shared f sound) orders)
    (refined_shared f sound ∷ refined_own f sound ∷ refined_own_with_one_table f sound ∷ [])
