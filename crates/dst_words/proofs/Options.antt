-- Options that have values: each takes two words, so that further words are no options.
use Rattle.std.proofs.Common.{◌≡◌, ◌≢◌, ℕ, zero, suc, ◌+◌, ◌*◌, Bool, true, false, if◌then◌else◌, List, [], ◌∷◌, length, map, take, drop, get_or, ◌≤◌, ◌-◌}
use Rattle.std.proofs.Common.{refl, ap, sym, ◌∙◌, arith, Option, Some, None}
use Rattle.std.proofs.lemmas.List.{take_all}
use Rattle.std.specs.Prelude.{codes, not, find, filter, option_map}
use Rattle.std.specs.List.{AllByRecursion}
use Rattle.dsdiff_spec.specs.Bytes.{◌is◌}
use Rattle.dsdiff_spec.specs.Words.{Word, Command, Task, encode, encode_dsf}
use Rattle.words_spec.specs.Slots.{file, read_slots, Setting, level, workers, allowed_value, setting_value, read_settings}
use Rattle.words_spec.specs.Rows.{level_of, workers_of, task_with, task_of}
use Rattle.dst_words.specs.RowWords.{of_settings, coding_task, encode_words, encode_dsf_words, level_and_workers_in, level_and_workers}
use Prim.Native.String.{String}

abbrev pub HasValue : Setting → Type 0
HasValue s = s.has_value ≡ true

found_has_value : (p : Setting → Bool) (settings : List Setting) (s : Setting) → AllByRecursion HasValue settings → find p settings ≡ Some s → HasValue s
found_has_value p [] s h e = absurd cc
found_has_value p (t ∷ ts) s h e = go (p t) (found_has_value p ts s h.1) e
  where
    go : (b : Bool) → (find p ts ≡ Some s → HasValue s) → (if b then Some t else find p ts) ≡ Some s → HasValue s
    go true later k = let same : t ≡ s = cc in rw same at h.0
    go false later k = later k

filtered_have_values : (p : Setting → Bool) (settings : List Setting) → AllByRecursion HasValue settings → AllByRecursion HasValue (filter p settings)
filtered_have_values p [] h = tt
filtered_have_values p (t ∷ ts) h = go (p t) (filtered_have_values p ts h.1)
  where
    go : (b : Bool) → AllByRecursion HasValue (filter p ts) → AllByRecursion HasValue (if b then t ∷ filter p ts else filter p ts)
    go true later = (h.0, later)
    go false later = later

-- what is set behind an option with a value is nothing where there is nothing behind the value
abbrev pub set_behind : (ℕ × List Word → Option (List (Word × ℕ))) → Option (ℕ × List Word) → Option (List (Word × ℕ))
set_behind f o = elim o [ None ↦ None | Some r ↦ f r ]

none_set : (f : ℕ × List Word → Option (List (Word × ℕ))) (s : Setting) (words : List Word) → HasValue s →
    ((v : Word) (vs : List Word) (n : ℕ) → words ≡ v ∷ vs → f (n, vs) ≡ None) → set_behind f (setting_value s words) ≡ None
none_set f s words has none = go s.name s.has_value s.allows has words none
  where
    go : (name : String) (b : Bool) (allows : ℕ → Bool) → b ≡ true → (ws : List Word) → ((v : Word) (vs : List Word) (n : ℕ) → ws ≡ v ∷ vs → f (n, vs) ≡ None) →
        set_behind f (setting_value (record { name = name; has_value = b; allows = allows }) ws) ≡ None
    go name false allows eq ws h = absurd cc
    go name true allows eq [] h = refl
    go name true allows eq (v ∷ vs) h = value (allowed_value (record { name = name; has_value = true; allows = allows }) v)
      where
        value : (o : Option ℕ) → set_behind f (option_map (λ n. (n, vs)) o) ≡ None
        value None = refl
        value (Some n) = h v vs n refl

-- words that aren't as many as some of the options and their values set nothing
pub unpaired_words : (n : ℕ) (settings : List Setting) (words : List Word) → AllByRecursion HasValue settings →
    ((k : ℕ) → k ≤ n → length words ≢ 2 * k) → read_settings n settings words ≡ None
unpaired_words n settings [] h unpaired = absurd (unpaired 0 (omega arith) refl)
unpaired_words zero settings (w ∷ ws) h unpaired = refl
unpaired_words (suc n) settings (w ∷ ws) h unpaired =
    let others = filter (λ t. not (w is t.name)) settings in
    go (λ vs fewer. unpaired_words n others vs (filtered_have_values (λ t. not (w is t.name)) settings h) fewer) (find (λ s. w is s.name) settings) refl
  where
    behind : ℕ × List Word → Option (List (Word × ℕ))
    behind r = option_map (λ found. (w, r.0) ∷ found) (read_settings n (filter (λ t. not (w is t.name)) settings) r.1)

    go : ((vs : List Word) → ((k : ℕ) → k ≤ n → length vs ≢ 2 * k) → read_settings n (filter (λ t. not (w is t.name)) settings) vs ≡ None) →
        (o : Option Setting) → find (λ s. w is s.name) settings ≡ o →
        ◌≡◌ {A = Option (List (Word × ℕ))} (elim o [ None ↦ None | Some s ↦ set_behind behind (setting_value s ws) ]) None
    go later None eq = refl
    go later (Some s) eq = none_set behind s ws (found_has_value (λ s. w is s.name) settings s h eq) (λ v vs m e.
        let fewer = ap length e in
        ap (option_map (λ found. (w, m) ∷ found)) (later vs (λ k most same. unpaired (k + 1) (omega arith) (omega (arith, fewer, same)))))

-- a row with a level and workers
pub task_of_coding : (at : ℕ → Command) (words : List Word) →
    of_settings (level ∷ workers ∷ []) (λ o. Some (at (level_of o))) words ≡ option_map (coding_task at) (level_and_workers_in words)
unfolding level_and_workers_in
task_of_coding at words = go (read_settings 2 (level ∷ workers ∷ []) words)
  where
    go : (o : Option (List (Word × ℕ))) → ◌≡◌ {A = Option Task}
        (elim o [ None ↦ None | Some o ↦ option_map (task_with o) (Some (at (level_of o))) ])
        (option_map (coding_task at) (option_map (λ o. (level_of o, workers_of o)) o))
    go None = refl
    go (Some o) = refl

-- ---- a level and workers, in either order
abbrev both_values : List (Word × ℕ) → ℕ × ℕ
both_values o = (level_of o, workers_of o)

-- what the second of two options sets, behind what the first does
second_set : (first second : String) (n : ℕ) (o : Option ℕ) →
    option_map both_values (option_map (λ found. (codes first, n) ∷ found)
    (set_behind (λ r. option_map (λ found. (codes second, r.0) ∷ found) (read_settings 0 [] r.1)) (option_map (λ m. (m, [])) o)))
    ≡ option_map (λ m. both_values ((codes first, n) ∷ (codes second, m) ∷ [])) o
second_set first second n None = refl
second_set first second n (Some m) = refl

pub level_first : (first l second w : Word) → first ≡ codes "--level" → second ≡ codes "--workers" →
    level_and_workers_in (first ∷ l ∷ second ∷ w ∷ []) ≡ level_and_workers l w
unfolding level_and_workers_in level_and_workers
level_first first l second w e f = rw (e, f) (go (allowed_value level l))
  where
    go : (o : Option ℕ) →
        option_map both_values (set_behind (λ r. option_map (λ found. (codes "--level", r.0) ∷ found) (read_settings 1 (workers ∷ []) r.1))
        (option_map (λ n. (n, codes "--workers" ∷ w ∷ [])) o))
        ≡ elim o [ None ↦ None | Some n ↦ option_map (λ m. (n, m)) (allowed_value workers w) ]
    go None = refl
    go (Some n) = second_set "--level" "--workers" n (allowed_value workers w)

pub workers_first : (first w second l : Word) → first ≡ codes "--workers" → second ≡ codes "--level" →
    level_and_workers_in (first ∷ w ∷ second ∷ l ∷ []) ≡ level_and_workers l w
unfolding level_and_workers_in level_and_workers
workers_first first w second l e f = rw (e, f) (go (allowed_value workers w))
  where
    turned : (m : ℕ) (o : Option ℕ) → option_map {U = ℕ × ℕ} (λ n. (n, m)) o ≡ elim o [ None ↦ None | Some n ↦ Some (n, m) ]
    turned m None = refl
    turned m (Some n) = refl

    none : (o : Option ℕ) → ◌≡◌ {A = Option (ℕ × ℕ)} None (elim o [ None ↦ None | Some n ↦ None ])
    none None = refl
    none (Some n) = refl

    go : (o : Option ℕ) →
        option_map both_values (set_behind (λ r. option_map (λ found. (codes "--workers", r.0) ∷ found) (read_settings 1 (level ∷ []) r.1))
        (option_map (λ m. (m, codes "--level" ∷ l ∷ [])) o))
        ≡ elim (allowed_value level l) [ None ↦ None | Some n ↦ option_map (λ m. (n, m)) o ]
    go None = none (allowed_value level l)
    go (Some m) = second_set "--workers" "--level" m (allowed_value level l) ∙ turned m (allowed_value level l)

-- no further row has this name
abbrev pub or_none : Option Task → Option Task
or_none t = elim t [ Some t ↦ Some t | None ↦ None ]

pub same_or_none : (t : Option Task) → or_none t ≡ t
same_or_none None = refl
same_or_none (Some t) = refl

abbrev behind_slots : (List Word → Option Task) → Option (List ℕ × List Word) → Option Task
behind_slots f o = elim o [ None ↦ None | Some read ↦ f read.1 ]

coded_row : (at : ℕ → Command) (o : Option (List ℕ × List Word)) →
    or_none (behind_slots (of_settings (level ∷ workers ∷ []) (λ o. Some (at (level_of o)))) o)
    ≡ behind_slots (λ words. option_map (coding_task at) (level_and_workers_in words)) o
coded_row at None = refl
coded_row at (Some read) = same_or_none (of_settings (level ∷ workers ∷ []) (λ o. Some (at (level_of o))) read.1) ∙ task_of_coding at read.1

pub encode_row : (words : List Word) → task_of (codes "encode" ∷ words) ≡ encode_words words
unfolding task_of
encode_row words = coded_row encode (read_slots (file ∷ file ∷ []) words)

pub encode_dsf_row : (words : List Word) → task_of (codes "encode-dsf" ∷ words) ≡ encode_dsf_words words
unfolding task_of
encode_dsf_row words = coded_row encode_dsf (read_slots (file ∷ file ∷ []) words)

-- words behind the first one, which is a row's name
pub row_named : {A : Type 0} (f : A → Word) (name : String) (row : List Word → Option Task) → ((words : List Word) → task_of (codes name ∷ words) ≡ row words) →
    (words : List A) (x : A) → 1 ≤ length words → f (get_or words 0 x) ≡ codes name →
    task_of (map f words) ≡ row (map f (take (length words - 1) (drop 1 words)))
row_named f name row same [] x long e = absurd (omega arith)
row_named f name row same (w ∷ ws) x long e =
    let rest : take (length (w ∷ ws) - 1) ws ≡ ws = take_all (length (w ∷ ws) - 1) ws (omega arith) in
    ap (λ name. task_of (name ∷ map f ws)) e ∙ same (map f ws) ∙ ap (λ rest. row (map f rest)) (sym rest)
