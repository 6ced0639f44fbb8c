-- What holds of a back end, by its pages.
use Rattle.std.proofs.Common.{◌≡◌}
use Rattle.heap_model.specs.Limits.{AreValid}
use Rattle.backend_fit.specs.Kept.{Kept, pages_in}
use Rattle.backend_fit.specs.Sound.{AreSound, IsSound}

pub pages_sound : {k : Kept} → IsSound k → AreSound (pages_in k)
pages_sound s = record { held = s.held; pages = s.pages; whole = s.whole; used = s.used; apart = s.apart }

pub all_sound : (k : Kept) → AreValid k.limits → k.region.segments ≡ k.limits.segments → AreSound (pages_in k) → IsSound k
all_sound k l e s = record { limits = l; segments = e; held = s.held; pages = s.pages; whole = s.whole; used = s.used; apart = s.apart }
