-- What trims of the series in the work area leave, and small counts.
pub mod Jobs
