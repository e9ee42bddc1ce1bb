mod DateLemmas
mod DayLemmas
mod DayOnLemmas
mod MidnightLemmas
mod MomentLemmas
mod PeriodLemmas
mod RuleLemmas
