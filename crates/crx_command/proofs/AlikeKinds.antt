-- The kinds of error that a parse may have at some words lead to one plan: help is never one of several.
use Rattle.std.proofs.{Common.rules, Math.Bool.and-false}
use Rattle.std.proofs.lemmas.Grind.{common_steps}
use Rattle.std.proofs.Common.{arith, ◌≡◌, ℕ, Bool, zero, suc, true, cond, refl}
use Rattle.std.proofs.Common.{List, [], ◌∷◌, Option, Some, None, is_some}
use Rattle.std.specs.{Option.option_map_or}
use Rattle.clap.specs.{Faults.{action_fault, built_fault}}
use Rattle.clap.specs.Faults.{bundle_step_fault, count_fault, default_fault, defaults_fault, entered_fault}
use Rattle.clap.specs.Faults.{fault_of, flag_word_fault, flags_fault, level_fault, long_fault, option_fault}
use Rattle.clap.specs.Faults.{other_fault, positional_fault, react_fault, set_fault}
use Rattle.clap.specs.Faults.{settle_fault, short_fault, step_fault, stray_fault, turn_fault, use_fault}
use Rattle.clap.specs.{Faults.walk_fault, Kinds.{IsAmong, Kinds, check_kinds, or_else}}
use Rattle.clap.specs.Kinds.{values_kinds}
use Rattle.clap.specs.Simple.{App, Shape, argument_words, built}
use Rattle.clap.specs.Walk.{Held, Names, Row, Rule, Step}
use Rattle.clap.specs.Walk.{Text, Waiting, Walk, nothing_held}
use Rattle.clap.specs.Walk.{subcommand_met, walked, with_default, idle, option, positional}
use Rattle.clap.specs.{declared.builder.{ArgAction.ArgAction, ValueParser.ValueParser}}
use Rattle.clap.specs.declared.error.ErrorKind.{ErrorKind}
use Rattle.crx_command.specs.meaning.{Commands.program, Planning.{Plan, by_kind, by_kinds}}

-- each of the kinds leads to the plan of the first
pub record Alike (kinds : Kinds) : Type 0 where
  pub same : (k : ErrorKind) (plan : Plan) → IsAmong k kinds → by_kind k ≡ by_kinds kinds plan

alike_none : Alike []
alike_none = record { same = λ k plan h. absurd h }

alike_one : (x : ErrorKind) → Alike (x ∷ [])
alike_one x = grind arith

alike_or : (a b : Kinds) → Alike a → Alike b → Alike (or_else a b)
alike_or = grind arith

alike_if : (test : Bool) (a b : Kinds) → Alike a → Alike b → Alike (cond test a b)
alike_if = grind arith

alike_option : {X : Type 0} (f : X → Kinds) (o : Option X) → ((x : X) → Alike (f x))
    → Alike (option_map_or f o [])
alike_option = grind (arith, common_steps, alike_none)

-- ---- one use of an argument

alike_values : (i : Bool) (p : ValueParser) (texts : List Text) → Alike (values_kinds i p texts)
alike_values i p [] = alike_none
alike_values i p (text ∷ rest) =
    search (rules, alike_or, alike_if, alike_none, alike_one, alike_values i p rest)

alike_count : (a : Rule) (values : List Text) (rows : List Row) → Alike (count_fault a values rows)
alike_count = grind (arith, common_steps, alike_if, alike_none, alike_one, alike_values)

alike_set : (again : Bool) (a : Rule) (values : List Text) (rows : List Row)
    → Alike (set_fault again a values rows)
alike_set = search (rules, alike_or, alike_if, alike_one, alike_none, alike_values)

alike_action : (x : ArgAction) (again : Bool) (a : Rule) (values : List Text) (rows : List Row)
    → Alike (action_fault x again a values rows)
alike_action = grind (arith, common_steps, alike_set, alike_values, alike_count, alike_one)

alike_use : (again : Bool) (a : Rule) (values : List Text) (rows : List Row)
    → Alike (use_fault again a values rows)
alike_use = search (rules, alike_or, alike_if, alike_one, alike_none, alike_action)

-- ---- the words

alike_settle : (c : List Rule) (again : Bool) (h : Held) → Alike (settle_fault c again h)
alike_settle = search (rules, alike_option, alike_use)

alike_react : (c : List Rule) (again : Bool) (a : Rule) (values : List Text) (h : Held)
    → Alike (react_fault c again a values h)
alike_react = search (rules, alike_or, alike_settle, alike_use)

alike_with_value : (c : List Rule) (again : Bool) (a : Rule) (v : Option Text) (h : Held)
    → Alike (option_fault c again a v h)
alike_with_value c again a (Some v) h = alike_react c again a (v ∷ []) h
alike_with_value c again a None h = alike_settle c again h

alike_long : (c : List Rule) (again : Bool) (found : Option Rule) (v : Option Text) (h : Held)
    → Alike (long_fault c again found v h)
alike_long c again None v h = alike_one _
alike_long c again (Some a) v h = search (rules, alike_if, alike_one, alike_with_value, alike_react)

alike_short : (c : List Rule) (again : Bool) (found : Option Rule) (rest : Text) (h : Held)
    (more : Held → Kinds) → ((g : Held) → Alike (more g)) → Alike (short_fault c again found rest h more)
alike_short c again None rest h more each = alike_one _
alike_short c again (Some a) rest h more each =
    search (rules, alike_if, alike_or, alike_with_value, alike_react)

alike_bundle_step : (c : List Rule) (again : Bool) (x : Option ℕ) (flags : Text) (skip : ℕ) (h : Held)
    (more : Text → ℕ → Held → Kinds) → ((t : Text) (n : ℕ) (g : Held) → Alike (more t n g))
    → Alike (bundle_step_fault c again x flags skip h more)
alike_bundle_step c again None flags skip h more each = alike_none
alike_bundle_step c again (Some x) flags zero h more each = search (rules, alike_short)
alike_bundle_step c again (Some x) flags (suc skip) h more each = each _ skip h

alike_flags : (c : List Rule) (again : Bool) (k : ℕ) (flags : Text) (skip : ℕ) (h : Held)
    → Alike (flags_fault c again k flags skip h)
unfolding flags_fault
alike_flags c again zero flags skip h = alike_none
alike_flags c again (suc k) flags skip h =
    grind (arith, common_steps, alike_bundle_step, alike_flags c again k)

alike_flag_word : (c : List Rule) (again : Bool) (long : Option (Text × Option Text)) (word : Text) (h : Held)
    → Alike (flag_word_fault c again long word h)
alike_flag_word c again (Some p) word h = search (rules, alike_long)
alike_flag_word c again None word h = search (rules, alike_option, alike_flags)

alike_plain_word : (s : Shape) (word : Text) (h : Held) → Alike (other_fault s None word h)
alike_plain_word = grind (arith, common_steps, alike_if, alike_none, alike_flag_word)

-- no subcommand is called `help`, or there is none
abbrev NoHelp : Shape → Names → Type 0
NoHelp s names = (waiting : Waiting) (word : Text) (h : Held)
    → Alike (other_fault s (subcommand_met names waiting word) word h)

no_names : (s : Shape) → NoHelp s []
no_names s idle word h = alike_plain_word s word h
no_names s (option id) word h = alike_plain_word s word h
no_names s positional word h = alike_plain_word s word h

disabled : (s : Shape) (met : Option Text) (word : Text) (h : Held)
    → s.disable_help_subcommand ≡ true → Alike (other_fault s met word h)
disabled s None word h off = alike_plain_word s word h
disabled s (Some name) word h off = rw (off, and-false) alike_none

alike_positional : (c : List Rule) (again : Bool) (a : Rule) (h : Held) → Alike (positional_fault c again a h)
alike_positional c again a h = alike_if _ _ _ alike_none (alike_settle c again h)

alike_position : (s : Shape) (h : Held) (found : Option Rule)
    → Alike (option_map_or (λ a. positional_fault s.rules s.args_override_self a h) found (stray_fault s))
alike_position = grind (arith, common_steps, alike_if, alike_one, alike_positional)

alike_step : (s : Shape) (position : ℕ) (h : Held) (step : Step) → Alike (step_fault s position h step)
alike_step = grind (arith, common_steps, alike_position, alike_none)

alike_turn : (s : Shape) (names : Names) (w : Walk) (word : Text) → NoHelp s names
    → Alike (turn_fault s names w word)
alike_turn = grind (arith, common_steps, alike_if, is_some, alike_none, alike_or, alike_step)

alike_walk : (s : Shape) (names : Names) (w : Walk) (words : List Text)
    → NoHelp s names → Alike (walk_fault s names w words)
unfolding walk_fault
alike_walk s names w [] off = alike_none
alike_walk s names w (word ∷ rest) off =
    alike_or _ _ (alike_turn s names w word off) (alike_walk s names (walked s.rules names w word) rest off)

-- ---- after the words

alike_default : (rows : List Row) (a : Rule) → Alike (default_fault rows a)
alike_default = grind (arith, common_steps, alike_if, alike_none, alike_one, alike_or, alike_values)

alike_defaults : (rows : List Row) (rules : List Rule) → Alike (defaults_fault rows rules)
unfolding defaults_fault
alike_defaults rows [] = alike_none
alike_defaults rows (a ∷ rest) =
    alike_or _ _ (alike_default rows a) (alike_defaults (with_default rows a) rest)

alike_checks : (a b d : Bool) → Alike (check_kinds a b d)
alike_checks a b d = grind arith

alike_level : (s : Shape) (names : Names) (h : Held) (words : List Text) (has : Bool) (below : Kinds)
    → NoHelp s names → Alike below → Alike (level_fault s names h words has below)
alike_level = search (rules, alike_or, alike_walk, alike_settle, alike_defaults, alike_checks)

alike_entered : (a : App) (stop : Option (Text × List Text)) → Alike (entered_fault a stop)
alike_entered = search (rules, alike_option, alike_level, no_names, alike_none)

alike_built : (a : App) (h : Held) (words : List Text)
    → a.top.disable_help_subcommand ≡ true → Alike (built_fault a h words)
alike_built = search (rules, alike_level, disabled, alike_entered)

pub program_alike : (words : List Text) → Alike (fault_of program words)
program_alike words = alike_built (built program) nothing_held (argument_words program words) refl
