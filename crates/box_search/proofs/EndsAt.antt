-- What is true of the site of a verdict, where there is one.
use Rattle.branch_and_bound.specs.declared.found.Site.{Site}
use Rattle.branch_and_bound.specs.declared.found.Stop.TheVariants.{Work, Wide}
use Rattle.branch_and_bound.specs.declared.found.Verdict.{Verdict}
use Rattle.branch_and_bound.specs.declared.found.Verdict.TheVariants.{Best, NoTiming, Stopped}
use Rattle.box_search.specs.SiteNames.{EndsAt}

pub ends_at : {W : Type 0} {P Q : Site W → Type 0} → ((site : Site W) → P site → Q site) → (verdict : Verdict W) → EndsAt P verdict → EndsAt Q verdict
ends_at f Best h = tt
ends_at f NoTiming h = tt
ends_at f (Stopped (Work spent)) h = tt
ends_at f (Stopped (Wide site)) h = f site h
