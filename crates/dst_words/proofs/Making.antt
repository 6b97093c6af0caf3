-- The rows of cutting and of making, word by word.
use Rattle.std.proofs.Common.{◌≡◌, ℕ, Bool, true, false, if◌then◌else◌, List, [], ◌∷◌, ◌++◌, refl, ap, sym, ◌∙◌, Option, Some, None}
use Rattle.std.specs.Prelude.{codes, bytes_eq, option_map, ◌&&◌, filter, not}
use Rattle.std.proofs.lemmas.Slice.Eq.{bytes_eq-Decides}
use Rattle.dsdiff_spec.specs.Bytes.{◌above◌}
use Rattle.dsdiff_spec.specs.Words.{Word, Command, Task, cut}
use Rattle.words_spec.specs.Slots.{is_file_word, number_word, number_within, Setting, rate, allowed_value}
use Rattle.words_spec.specs.Slots.{setting_value, read_settings}
use Rattle.words_spec.specs.Rows.{workers_of, multiple_of, cut_of, make_of, make_run_of, task_of}
use Rattle.dst_words.specs.RowWords.{of_settings, cut_words, make_words, span_in, channels_in, alone, making_task, running_task, cutting_task}
use Rattle.dst_words.proofs.Options.{or_none, set_behind}

-- the numbers of one slot in front of those of the others
abbrev pub then_slot : Option (List ℕ) → Option (List ℕ × List Word) → Option (List ℕ × List Word)
then_slot o r = elim o [ None ↦ None | Some ns ↦ option_map (λ r. (ns ++ r.0, r.1)) r ]

abbrev pub no_number : Bool → Option (List ℕ)
no_number b = if b then Some [] else None

abbrev pub a_number : Option ℕ → Option (List ℕ)
a_number o = option_map (λ n. n ∷ []) o

abbrev behind : (List ℕ → List Word → Option Task) → Option (List ℕ × List Word) → Option Task
behind f o = elim o [ None ↦ None | Some read ↦ f read.0 read.1 ]

-- ---- cutting
abbrev cutting : List ℕ → List Word → Option Task
cutting n = of_settings [] (λ o. cut_of n)

abbrev cut_read : Bool → Bool → Option ℕ → Option ℕ → List Word → Option Task
cut_read i o a b rest = behind cutting (then_slot (no_number i) (then_slot (no_number o) (then_slot (a_number a) (then_slot (a_number b) (Some ([], rest))))))

abbrev span_of : Option ℕ → Option ℕ → Option (ℕ × ℕ)
span_of a b = elim a [ None ↦ None | Some a ↦ elim b [ None ↦ None | Some b ↦ if a above b then None else Some (a, b) ] ]

cut_in_order : (past : Bool) (a b : ℕ) →
    or_none (option_map alone (if past then None else Some (cut a b))) ≡ option_map cutting_task (if past then None else Some (a, b))
cut_in_order true a b = refl
cut_in_order false a b = refl

cut_as_read : (i o : Bool) (a b : Option ℕ) → or_none (cut_read i o a b []) ≡ (if i && o then option_map cutting_task (span_of a b) else None)
cut_as_read false o a b = refl
cut_as_read true false a b = refl
cut_as_read true true None b = refl
cut_as_read true true (Some a) None = refl
cut_as_read true true (Some a) (Some b) = cut_in_order (a above b) a b

cut_too_long : (i o : Bool) (a b : Option ℕ) (w : Word) (ws : List Word) → or_none (cut_read i o a b (w ∷ ws)) ≡ None
cut_too_long false o a b w ws = refl
cut_too_long true false a b w ws = refl
cut_too_long true true None b w ws = refl
cut_too_long true true (Some a) None w ws = refl
cut_too_long true true (Some a) (Some b) w ws = refl

cut_too_short : (i o : Bool) (a : Option ℕ) → or_none (behind cutting (then_slot (no_number i) (then_slot (no_number o) (then_slot (a_number a) None)))) ≡ None
cut_too_short false o a = refl
cut_too_short true false a = refl
cut_too_short true true None = refl
cut_too_short true true (Some a) = refl

cut_of_files : (i o : Bool) → or_none (behind cutting (then_slot (no_number i) (then_slot (no_number o) None))) ≡ None
cut_of_files false o = refl
cut_of_files true false = refl
cut_of_files true true = refl

cut_of_file : (i : Bool) → or_none (behind cutting (then_slot (no_number i) None)) ≡ None
cut_of_file false = refl
cut_of_file true = refl

pub cut_row : (words : List Word) → task_of (codes "cut" ∷ words) ≡ cut_words words
unfolding task_of span_in
cut_row [] = refl
cut_row (i ∷ []) = cut_of_file (is_file_word i)
cut_row (i ∷ o ∷ []) = cut_of_files (is_file_word i) (is_file_word o)
cut_row (i ∷ o ∷ a ∷ []) = cut_too_short (is_file_word i) (is_file_word o) (number_word a)
cut_row (i ∷ o ∷ a ∷ b ∷ []) = cut_as_read (is_file_word i) (is_file_word o) (number_word a) (number_word b)
cut_row (i ∷ o ∷ a ∷ b ∷ w ∷ ws) = cut_too_long (is_file_word i) (is_file_word o) (number_word a) (number_word b) w ws

-- ---- a row whose one option is a rate: one works at it
abbrev Found : Type 0
Found = Option (List (Word × ℕ))

abbrev by_one : (List (Word × ℕ) → Option Command) → Found → Option Task
by_one f o = elim o [ None ↦ None | Some o ↦ option_map alone (f o) ]

abbrev by_workers : (List (Word × ℕ) → Option Command) → Found → Option Task
by_workers f o = elim o [ None ↦ None | Some o ↦ option_map (λ c. record { command = c; workers = workers_of o }) (f o) ]

one_works : (f : List (Word × ℕ) → Option Command) (w : Word) (n : ℕ) → w ≡ codes "--rate" → by_workers f (Some ((w, n) ∷ [])) ≡ by_one f (Some ((w, n) ∷ []))
one_works f w n e =
    ap (λ k. option_map (λ c. record { command = c; workers = k }) (f ((w, n) ∷ [])))
    (ap (λ w. if bytes_eq w (codes "--workers") then n else 1) e)

pub rate_alone : (f : List (Word × ℕ) → Option Command) (words : List Word) → of_settings (rate ∷ []) f words ≡ by_one f (read_settings 1 (rate ∷ []) words)
rate_alone f [] = refl
rate_alone f (w ∷ ws) = go (bytes_eq w (codes "--rate")) refl ws
  where
    others : List Setting
    others = filter (λ t. not (bytes_eq w (codes t.name))) (rate ∷ [])

    found : ℕ × List Word → Found
    found r = option_map (λ found. (w, r.0) ∷ found) (read_settings 0 others r.1)

    set : Bool → List Word → Found
    set b ws = elim (if b then Some rate else None) [ None ↦ None | Some s ↦ set_behind found (setting_value s ws) ]

    value : (o : Option ℕ) (vs : List Word) → w ≡ codes "--rate" →
        by_workers f (set_behind found (option_map (λ n. (n, vs)) o)) ≡ by_one f (set_behind found (option_map (λ n. (n, vs)) o))
    value None vs e = refl
    value (Some n) [] e = one_works f w n e
    value (Some n) (x ∷ xs) e = refl

    go : (b : Bool) → bytes_eq w (codes "--rate") ≡ b → (ws : List Word) → by_workers f (set b ws) ≡ by_one f (set b ws)
    go false is ws = refl
    go true is [] = refl
    go true is (v ∷ vs) = value (allowed_value rate v) vs ((bytes_eq-Decides w (codes "--rate")).0 is)

-- ---- making
abbrev making : List ℕ → List Word → Option Task
making n = of_settings (rate ∷ []) (λ o. make_of (multiple_of o) n)

abbrev running : List ℕ → List Word → Option Task
running n = of_settings (rate ∷ []) (λ o. make_run_of (multiple_of o) n)

abbrev slots_read : Option ℕ → Bool → Option ℕ → Option ℕ → List Word → Option (List ℕ × List Word)
slots_read s place frames count options =
    then_slot (a_number s) (then_slot (no_number place) (then_slot (a_number frames) (then_slot (a_number count) (Some ([], options)))))

abbrev pub or_else : Option Task → Option Task → Option Task
or_else a b = elim a [ Some t ↦ Some t | None ↦ b ]

abbrev made_or_run : Option ℕ → (is_file is_run : Bool) → (most_made most_run count : Option ℕ) → List Word → Option Task
made_or_run s is_file is_run most_made most_run count options =
    or_else (behind making (slots_read s is_file most_made count options)) (or_none (behind running (slots_read s is_run most_run count options)))

abbrev channels_of : Option ℕ → Found → Option (ℕ × ℕ)
channels_of count found = elim count [ None ↦ None | Some n ↦ option_map (λ m. (n, m)) (option_map multiple_of found) ]

abbrev as_asked : Option ℕ → (is_file is_run : Bool) → (most_made most_run count : Option ℕ) → Found → Option Task
as_asked s is_file is_run most_made most_run count found = elim s [
  | None ↦ None
  | Some s ↦ elim (channels_of count found) [
    | None ↦ None
    | Some channels ↦
        if is_run then option_map (running_task s channels) most_run else (if is_file then option_map (making_task s channels) most_made else None)
  ]
]

none_asked : (f : ℕ × ℕ → Option Task) (count : Option ℕ) (found : Found) → ((channels : ℕ × ℕ) → f channels ≡ None) →
    ◌≡◌ {A = Option Task} (elim (channels_of count found) [ None ↦ None | Some channels ↦ f channels ]) None
none_asked f None found h = refl
none_asked f (Some n) None h = refl
none_asked f (Some n) (Some o) h = h (n, multiple_of o)

made_alone : (s frames n : ℕ) (most_run : Option ℕ) (found : Found) →
    or_else (by_one (λ o. make_of (multiple_of o) (s ∷ frames ∷ n ∷ [])) found) None ≡ as_asked (Some s) true false (Some frames) most_run (Some n) found
made_alone s frames n most_run None = refl
made_alone s frames n most_run (Some o) = refl

run_alone : (s frames n : ℕ) (most_made : Option ℕ) (found : Found) →
    or_none (by_one (λ o. make_run_of (multiple_of o) (s ∷ frames ∷ n ∷ [])) found) ≡ as_asked (Some s) false true most_made (Some frames) (Some n) found
run_alone s frames n most_made None = refl
run_alone s frames n most_made (Some o) = refl

no_truth : {A : Type 0} → false ≡ true → A
no_truth e = absurd cc

make_as_asked : (s : Option ℕ) (is_file is_run : Bool) (most_made most_run count : Option ℕ) (options : List Word) → (is_run ≡ true → is_file ≡ false) →
    made_or_run s is_file is_run most_made most_run count options
    ≡ as_asked s is_file is_run most_made most_run count (read_settings 1 (rate ∷ []) options)
make_as_asked None is_file is_run most_made most_run count options h = refl
make_as_asked (Some s) true true most_made most_run count options h = no_truth (sym (h refl))
make_as_asked (Some s) false false most_made most_run count options h =
    sym (none_asked (λ channels. None) count (read_settings 1 (rate ∷ []) options) (λ channels. refl))
make_as_asked (Some s) true false None most_run count options h =
    sym (none_asked (λ channels. option_map (making_task s channels) None) count (read_settings 1 (rate ∷ []) options) (λ channels. refl))
make_as_asked (Some s) true false (Some frames) most_run None options h = refl
make_as_asked (Some s) true false (Some frames) most_run (Some n) options h =
    ap (λ t. or_else t None) (rate_alone (λ o. make_of (multiple_of o) (s ∷ frames ∷ n ∷ [])) options)
    ∙ made_alone s frames n most_run (read_settings 1 (rate ∷ []) options)
make_as_asked (Some s) false true most_made None count options h =
    sym (none_asked (λ channels. option_map (running_task s channels) None) count (read_settings 1 (rate ∷ []) options) (λ channels. refl))
make_as_asked (Some s) false true most_made (Some frames) None options h = refl
make_as_asked (Some s) false true most_made (Some frames) (Some n) options h =
    ap or_none (rate_alone (λ o. make_run_of (multiple_of o) (s ∷ frames ∷ n ∷ [])) options)
    ∙ run_alone s frames n most_made (read_settings 1 (rate ∷ []) options)

-- fewer words are none of both
abbrev few_read : Option ℕ → Bool → Option (List ℕ × List Word) → Option (List ℕ × List Word)
few_read s place rest = then_slot (a_number s) (then_slot (no_number place) rest)

none_read : (s : Option ℕ) (place : Bool) (frames : Option ℕ) → few_read s place (then_slot (a_number frames) None) ≡ None
none_read None place frames = refl
none_read (Some s) false frames = refl
none_read (Some s) true None = refl
none_read (Some s) true (Some n) = refl

few_words : (s : Option ℕ) (place : Bool) → few_read s place None ≡ None
few_words None place = refl
few_words (Some s) false = refl
few_words (Some s) true = refl

one_word : (s : Option ℕ) → then_slot (a_number s) None ≡ None
one_word None = refl
one_word (Some s) = refl

neither : (a b : Option (List ℕ × List Word)) → a ≡ None → b ≡ None → or_else (behind making a) (or_none (behind running b)) ≡ None
neither a b e f = ap (λ a. or_else (behind making a) (or_none (behind running b))) e ∙ ap (λ b. or_none (behind running b)) f

run_is_no_file : (p : Word) → bytes_eq p (codes "--run") ≡ true → is_file_word p ≡ false
run_is_no_file p e = ap is_file_word ((bytes_eq-Decides p (codes "--run")).0 e)

pub make_row : (words : List Word) → task_of (codes "make" ∷ words) ≡ make_words words
unfolding task_of channels_in
make_row [] = refl
make_row (s ∷ []) = neither _ _ (one_word (number_word s)) (one_word (number_word s))
make_row (s ∷ p ∷ []) =
    neither _ _ (few_words (number_word s) (is_file_word p)) (few_words (number_word s) (bytes_eq p (codes "--run")))
make_row (s ∷ p ∷ f ∷ []) =
    neither _ _ (none_read (number_word s) (is_file_word p) (number_within 0 1000 f))
    (none_read (number_word s) (bytes_eq p (codes "--run")) (number_within 0 100 f))
make_row (s ∷ p ∷ f ∷ c ∷ options) =
    make_as_asked (number_word s) (is_file_word p) (bytes_eq p (codes "--run")) (number_within 0 1000 f) (number_within 0 100 f) (number_within 1 6 c) options
    (run_is_no_file p)
