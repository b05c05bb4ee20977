-- When a call fails: by its plan, by the calls before it, and by the bytes read or taken.
use Rattle.std.specs.Prelude.{ℕ, Bool, false, not, ◌&&◌, ◌||◌, ◌==◌, ◌-◌, min, nat_le, nat_lt, if◌then◌else◌}
use Rattle.crx_lines.specs.meaning.Devices.{one_more}
use Rattle.crx_devices.specs.declared.plan.When.{When}
use Rattle.crx_devices.specs.declared.plan.When.TheVariants.{Never, AfterCalls, AfterBytes}
use Rattle.crx_devices.specs.declared.plan.Watch.{Watch}

-- whether the point of a plan is reached
abbrev pub is_reached : When → ℕ → ℕ → Bool
is_reached Never calls moved = false
is_reached (AfterCalls count) calls moved = nat_le count calls
is_reached (AfterBytes count) calls moved = nat_le count moved

-- whether the plan still holds: one that fails once may have failed
abbrev pub holds_still : Watch → Bool
holds_still w = not (w.plan.once && w.struck)

-- whether the next call fails, on a device that has read or taken `moved` bytes
abbrev pub fails : Watch → ℕ → Bool
fails w moved = holds_still w && is_reached w.plan.when w.calls moved

-- how many of the wanted bytes are before the point from which a later call fails
abbrev pub before_point : When → ℕ → ℕ → ℕ
before_point Never moved wanted = wanted
before_point (AfterCalls _) moved wanted = wanted
before_point (AfterBytes count) moved wanted = min wanted (count - moved)

-- how many of the wanted bytes a call that doesn't fail reads or takes
abbrev pub up_to_failure : Watch → ℕ → ℕ → ℕ
up_to_failure w moved wanted = if holds_still w then before_point w.plan.when moved wanted else wanted

-- the watch after a call
abbrev pub after_call : Watch → ℕ → Watch
after_call w moved = record { plan = w.plan; calls = one_more w.calls; struck = w.struck || fails w moved }

-- whether a sink can take none of these bytes: it takes none per call, or it is full
abbrev pub is_stuck : ℕ → ℕ → ℕ → Bool
is_stuck bytes at_most room = nat_lt 0 bytes && min at_most room == 0
